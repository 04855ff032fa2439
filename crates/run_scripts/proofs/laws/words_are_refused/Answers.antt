use Rattle.run_scripts.proofs.StatusesCaused.{words_are_refused}
use Rattle.run_scripts.proofs.laws.words_are_refused.Goals as goal

pub returns : goal.returns
returns c = words_are_refused c.scripts_blame.ensures
