use Rattle.run_scripts.proofs.NothingElseRefused.{long_files_are_refused}
use Rattle.run_scripts.proofs.laws.long_files_are_refused.Goals as goal

pub returns : goal.returns
returns c = long_files_are_refused c.scripts_blame.ensures
