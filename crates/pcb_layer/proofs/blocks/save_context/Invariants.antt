-- The code is that of the registers before.
use Rattle.std.proofs.Common.{◌≡◌, ◌*◌, length, map}
use Rattle.mips_table.specs.Encoding.{encoding}
use Rattle.pcb_layer.specs.Code.{save_context_code}
use Rattle.pcb_layer.proofs.blocks.save_context.Given as goal

abbrev pub invariant-loop-n : goal.invariant-loop-n
invariant-loop-n l = (l.code ≡ map encoding (save_context_code l.n)) × (length l.code ≡ 2 * l.n)
