-- By parts: the block's address, the rest, the registers.
use Rattle.pcb_layer.proofs.UserKept.{restores_user}
use Rattle.pcb_layer.proofs.laws.a_user_is_restored.Goals as goal

pub returns : goal.returns
returns c = restores_user
