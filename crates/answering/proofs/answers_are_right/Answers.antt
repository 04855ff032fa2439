use Rattle.answering.proofs.EveryStepKeepsIt.{answers_are_right}
use Rattle.answering.proofs.answers_are_right.Goals as goal

pub returns : goal.returns
returns c = answers_are_right c.runs_are_lawful.ensures
