-- A step over the words is the move of their memory, which the flat machine's step tells.
use Rattle.mips_step.proofs.FlatStep.{steps}
use Rattle.mips_step.specs.Step.{StepOutcome}
use Rattle.mips_step.specs.View.{cpu_of}
use Rattle.mips_step.proofs.flat.flat_step.Goals as goal

pub returns : goal.returns
returns c =
    let end : StepOutcome = record { outcome = c.step_in_memory.result; cpu = cpu_of c.step_in_memory.new.cpu } in
    steps (cpu_of c.args.cpu.now) c.args.flat.now.words.items end c.step_in_memory.new.bus.words.items c.step_in_memory.ensures
