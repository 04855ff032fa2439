-- By cases on whether the hand is the last frame.
use Rattle.frame_table.proofs.EntriesFound.{moves}
use Rattle.frame_table.proofs.laws.the_hand_moves_on.Goals as goal

pub returns : goal.returns
returns c = moves
