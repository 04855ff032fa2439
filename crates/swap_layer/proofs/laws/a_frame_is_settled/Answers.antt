-- By the laws that the body calls.
use Rattle.swap_layer.proofs.FramesSwapped.{settles}
use Rattle.swap_layer.proofs.laws.a_frame_is_settled.Goals as goal

pub returns : goal.returns
returns c w f = settles w f c.registers_stay.ensures (c.words_are_moved.ensures w f)
