-- By parts: the block's address, the registers, the rest.
use Rattle.pcb_layer.proofs.UserKept.{keeps_user}
use Rattle.pcb_layer.proofs.laws.a_user_is_kept.Goals as goal

pub returns : goal.returns
returns c = keeps_user
