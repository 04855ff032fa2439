-- By induction on the number of registers.
use Rattle.pcb_layer.proofs.UserKept.{restores_registers}
use Rattle.pcb_layer.proofs.laws.registers_are_restored.Goals as goal

pub returns : goal.returns
returns c = restores_registers
