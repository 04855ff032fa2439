use Rattle.run_scripts.proofs.NothingElseRefused.{runs_end}
use Rattle.run_scripts.proofs.laws.runs_end.Goals as goal

pub returns : goal.returns
returns c = runs_end c.scripts_blame.ensures
