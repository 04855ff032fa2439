use Rattle.alternating.proofs.EveryStepKeepsIt.{users_alternate}
use Rattle.alternating.proofs.users_alternate.Goals as goal

pub returns : goal.returns
returns c = users_alternate c.runs_are_lawful.ensures
