use Rattle.run_scripts.proofs.CallsOfCommands.{refusals_keep_the_disk}
use Rattle.run_scripts.proofs.laws.refusals_keep_the_disk.Goals as goal

pub returns : goal.returns
returns c = refusals_keep_the_disk c.scripts_blame.ensures
