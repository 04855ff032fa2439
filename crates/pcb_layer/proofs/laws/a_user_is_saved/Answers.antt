-- By the laws that the body calls.
use Rattle.pcb_layer.proofs.UserKept.{saves_user}
use Rattle.pcb_layer.proofs.laws.a_user_is_saved.Goals as goal

pub returns : goal.returns
returns c = λ w f. saves_user w (c.registers_are_saved.ensures w f) (c.a_user_is_kept.ensures w f)
