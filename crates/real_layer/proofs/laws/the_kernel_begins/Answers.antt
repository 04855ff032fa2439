-- By the handler's run after the reset.
use Rattle.real_layer.proofs.RoutinesAndExits.{tools_of}
use Rattle.real_layer.proofs.FromReset.{enters_first}
use Rattle.real_layer.proofs.laws.the_kernel_begins.Goals as goal

pub returns : goal.returns
returns c = λ m sizes code made. enters_first m sizes code made (tools_of c.premises.ensures) c.the_reset_stands.ensures c.the_kernel_is_entered_first.ensures
