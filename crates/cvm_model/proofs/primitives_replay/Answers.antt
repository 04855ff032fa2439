-- Primitives.
use Rattle.cvm_model.proofs.PrimitiveReplays.{primitives_replay}
use Rattle.cvm_model.proofs.primitives_replay.Goals as goal

pub returns : goal.returns
returns c = primitives_replay
