use Rattle.run_scripts.proofs.RunPromises.{runs_are_complete}
use Rattle.run_scripts.proofs.laws.runs_are_complete.Goals as goal

pub returns : goal.returns
returns c = runs_are_complete c.laws_below.ensures
