use Rattle.kernel_theorems.proofs.TrapData.{steps_tell}
use Rattle.kernel_theorems.proofs.traps.steps_tell.Goals as goal

pub returns : goal.returns
returns c = steps_tell
