-- By parts.
use Rattle.masm.proofs.LoopsAndRoutines.{in_range}
use Rattle.masm.proofs.laws.blocks_are_in_range.Goals as goal

pub returns : goal.returns
returns c = in_range
