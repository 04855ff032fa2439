-- Replays join.
use Rattle.cvm_model.proofs.ReplayedInParts.{joins}
use Rattle.cvm_model.proofs.replays_join.Goals as goal

pub returns : goal.returns
returns c = joins
