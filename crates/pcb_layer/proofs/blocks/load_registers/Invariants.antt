-- The code is that of the registers before.
use Rattle.std.proofs.Common.{◌≡◌, length, map}
use Rattle.mips_table.specs.Encoding.{encoding}
use Rattle.pcb_layer.specs.Code.{load_registers_code}
use Rattle.pcb_layer.proofs.blocks.load_registers.Given as goal

abbrev pub invariant-loop-n : goal.invariant-loop-n
invariant-loop-n l = (l.code ≡ map encoding (load_registers_code l.base l.offset l.n)) × (length l.code ≡ l.n)
