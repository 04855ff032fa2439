-- By induction on the list, over what an instruction is said to do.
use Rattle.masm.proofs.RegistersStay.{registers_stay}
use Rattle.masm.proofs.laws.registers_stay.Goals as goal

pub returns : goal.returns
returns c = registers_stay
