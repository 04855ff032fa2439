-- A system call of the code on the flat machine: its step is the trap with its word.
use Rattle.mips_table.specs.declared.inst.Inst.TheVariants.{Syscall}
use Rattle.mips_table.specs.Borders.{FlatCalls}
use Rattle.mips_table.proofs.FlatSimulates.{flat_step}

pub flat_calls : FlatCalls
flat_calls p f code sound fits holds at = flat_step p sound f (Syscall code) at fits holds
