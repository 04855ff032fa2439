-- By what comes in the step.
use Rattle.mips_table.proofs.RunsBeginAndEnd.{eret_leaves as leaves}
use Rattle.mips_table.proofs.runs.eret_leaves.Goals as goal

pub returns : goal.returns
returns c = λ x p s f q h at. leaves x p f s q h at
