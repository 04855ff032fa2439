use Rattle.summing.proofs.StepCounts.{compiled_steps_are_few}
use Rattle.summing.proofs.compiled_steps_are_few.Goals as goal

pub returns : goal.returns
returns c = compiled_steps_are_few
