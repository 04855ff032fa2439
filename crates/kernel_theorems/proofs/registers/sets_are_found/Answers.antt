use Rattle.kernel_theorems.proofs.FoundRegisters.{sets_are_found}
use Rattle.kernel_theorems.proofs.registers.sets_are_found.Goals as goal

pub returns : goal.returns
returns c = sets_are_found
