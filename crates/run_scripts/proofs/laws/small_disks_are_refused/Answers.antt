use Rattle.run_scripts.proofs.NothingElseRefused.{small_disks_are_refused}
use Rattle.run_scripts.proofs.laws.small_disks_are_refused.Goals as goal

pub returns : goal.returns
returns c = small_disks_are_refused c.scripts_blame.ensures
