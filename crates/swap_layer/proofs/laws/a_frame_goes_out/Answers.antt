-- By the laws that the body calls.
use Rattle.swap_layer.proofs.FramesSwapped.{swaps_out}
use Rattle.swap_layer.proofs.laws.a_frame_goes_out.Goals as goal

pub returns : goal.returns
returns c w f = swaps_out w f c.registers_stay.ensures (c.words_are_moved.ensures w f) (c.sectors_are_transferred.ensures w f)
