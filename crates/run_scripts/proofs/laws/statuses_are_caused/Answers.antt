use Rattle.run_scripts.proofs.StatusesCaused.{statuses_are_caused}
use Rattle.run_scripts.proofs.laws.statuses_are_caused.Goals as goal

pub returns : goal.returns
returns c = statuses_are_caused c.scripts_blame.ensures
