use Rattle.run_scripts.proofs.NothingElseRefused.{files_are_refused}
use Rattle.run_scripts.proofs.laws.files_are_refused.Goals as goal

pub returns : goal.returns
returns c = files_are_refused c.scripts_blame.ensures
