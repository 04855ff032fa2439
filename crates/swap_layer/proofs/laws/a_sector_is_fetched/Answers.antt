-- By the laws that the body calls.
use Rattle.swap_layer.proofs.FramesSwapped.{fetches}
use Rattle.swap_layer.proofs.laws.a_sector_is_fetched.Goals as goal

pub returns : goal.returns
returns c w f = fetches w f c.registers_stay.ensures (c.words_are_moved.ensures w f) (c.sectors_are_transferred.ensures w f)
