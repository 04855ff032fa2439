use Rattle.run_scripts.proofs.NothingElseRefused.{work_completes}
use Rattle.run_scripts.proofs.laws.work_completes.Goals as goal

pub returns : goal.returns
returns c = work_completes c.scripts_blame.ensures
