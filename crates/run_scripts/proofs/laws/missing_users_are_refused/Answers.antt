use Rattle.run_scripts.proofs.NothingElseRefused.{missing_users_are_refused}
use Rattle.run_scripts.proofs.laws.missing_users_are_refused.Goals as goal

pub returns : goal.returns
returns c = missing_users_are_refused c.scripts_blame.ensures
