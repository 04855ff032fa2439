use Rattle.c0_meaning.proofs.FaultOrderIsTotal.{order_is_total}
use Rattle.c0_meaning.proofs.laws.fault_order_is_total.Goals as goal

pub returns : goal.returns
returns c = order_is_total
