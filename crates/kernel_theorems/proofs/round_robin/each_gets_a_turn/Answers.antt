use Rattle.kernel_theorems.proofs.EachGetsATurn.{each_gets_a_turn}
use Rattle.kernel_theorems.proofs.round_robin.each_gets_a_turn.Goals as goal

pub returns : goal.returns
returns c = each_gets_a_turn
