use Rattle.summing.proofs.StepCounts.{steps_are_few}
use Rattle.summing.proofs.steps_are_few.Goals as goal

pub returns : goal.returns
returns c = steps_are_few
