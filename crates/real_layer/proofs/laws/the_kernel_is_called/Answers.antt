-- By the handler's run after an interrupt of a user.
use Rattle.real_layer.proofs.RoutinesAndExits.{tools_of}
use Rattle.real_layer.proofs.FromUser.{keeps}
use Rattle.real_layer.proofs.laws.the_kernel_is_called.Goals as goal

pub returns : goal.returns
returns c = λ m sizes code made. keeps m sizes code made (tools_of c.premises.ensures) c.an_interrupt_is_taken.ensures c.users_are_interrupted.ensures c.the_kernel_is_entered.ensures
