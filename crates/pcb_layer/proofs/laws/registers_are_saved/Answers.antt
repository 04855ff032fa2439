-- By induction on the number of registers.
use Rattle.pcb_layer.proofs.UserKept.{saves_registers}
use Rattle.pcb_layer.proofs.laws.registers_are_saved.Goals as goal

pub returns : goal.returns
returns c = saves_registers
