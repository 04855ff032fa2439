use Rattle.run_scripts.proofs.MachinesRest.{machines_rest}
use Rattle.run_scripts.proofs.laws.machines_rest.Goals as goal

pub returns : goal.returns
returns c = machines_rest c.laws_below.ensures
