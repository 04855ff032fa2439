-- By the laws that the body calls.
use Rattle.swap_layer.proofs.FramesSwapped.{swaps_in}
use Rattle.swap_layer.proofs.laws.a_sector_comes_in.Goals as goal

pub returns : goal.returns
returns c w f = swaps_in w f (c.a_sector_is_fetched.ensures w f) (c.a_frame_is_settled.ensures w f)
