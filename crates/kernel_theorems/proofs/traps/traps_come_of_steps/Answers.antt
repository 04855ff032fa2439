use Rattle.kernel_theorems.proofs.TrapData.{traps_come_of_steps}
use Rattle.kernel_theorems.proofs.traps.traps_come_of_steps.Goals as goal

pub returns : goal.returns
returns c = traps_come_of_steps
