use Rattle.run_scripts.proofs.RunPromises.{traces_are_isolated}
use Rattle.run_scripts.proofs.laws.traces_are_isolated.Goals as goal

pub returns : goal.returns
returns c = traces_are_isolated c.laws_below.ensures c.users_are_isolated.ensures c.units_replay.ensures
