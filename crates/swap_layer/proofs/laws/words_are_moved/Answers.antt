-- By the laws that the body calls.
use Rattle.swap_layer.proofs.WordsMoved.{moves_run}
use Rattle.swap_layer.proofs.laws.words_are_moved.Goals as goal

pub returns : goal.returns
returns c w f = moves_run w f c.registers_stay.ensures
