-- Replay through the steps of C0.
use Rattle.cvm_model.proofs.KernelReplay.{units_replay}
use Rattle.cvm_model.proofs.units_replay.Goals as goal

pub returns : goal.returns
returns c = units_replay c.primitives_alone_change_the_world.ensures
