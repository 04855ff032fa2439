use Rattle.kernel_boots.proofs.StatesPrinted.{states_rest}
use Rattle.kernel_boots.proofs.states_rest.Goals as goal

pub returns : goal.returns
returns c = states_rest c.machines_rest.ensures
