-- By what comes in the step.
use Rattle.mips_table.proofs.RunsBeginAndEnd.{interrupt_taken}
use Rattle.mips_table.proofs.runs.an_interrupt_is_taken.Goals as goal

pub returns : goal.returns
returns c = interrupt_taken
