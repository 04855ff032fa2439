use Rattle.c0_meaning.proofs.LeastFault.{least_is_there}
use Rattle.c0_meaning.proofs.laws.least_fault_is_there.Goals as goal

pub returns : goal.returns
returns c = least_is_there
