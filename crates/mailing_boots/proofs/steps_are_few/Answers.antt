use Rattle.mailing_boots.proofs.CountedCalls.{steps_are_few}
use Rattle.mailing_boots.proofs.steps_are_few.Goals as goal

pub returns : goal.returns
returns c = steps_are_few
