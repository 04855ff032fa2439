use Rattle.c0_meaning.proofs.LeastFault.{kept_is_least}
use Rattle.c0_meaning.proofs.laws.kept_fault_is_least.Goals as goal

pub returns : goal.returns
returns c = kept_is_least
