use Rattle.summing.proofs.EveryStepKeepsIt.{sums_are_right}
use Rattle.summing.proofs.sums_are_right.Goals as goal

pub returns : goal.returns
returns c = sums_are_right c.runs_are_lawful.ensures
