use Rattle.run_scripts.proofs.PromisedSaves.{saves_are_complete}
use Rattle.run_scripts.proofs.laws.saves_are_complete.Goals as goal

pub returns : goal.returns
returns c = saves_are_complete c.laws_below.ensures
