use Rattle.answering.proofs.StepCounts.{answered_steps_are_few}
use Rattle.answering.proofs.answered_steps_are_few.Goals as goal

pub returns : goal.returns
returns c = answered_steps_are_few
