use Rattle.kernel_theorems.proofs.TrapData.{steps_leave}
use Rattle.kernel_theorems.proofs.traps.steps_leave.Goals as goal

pub returns : goal.returns
returns c = steps_leave
