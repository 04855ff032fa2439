-- The words so far are those of the instructions before the index.
use Rattle.std.proofs.Common.{◌≡◌, ◌+◌, ◌++◌, length, take, map}
use Rattle.mips_table.specs.Encoding.{encoding}
use Rattle.masm.proofs.assembly.extend.Given as goal

abbrev pub invariant-loop-inst : goal.invariant-loop-inst
invariant-loop-inst g l = (l.code ≡ l.initial.code ++ map encoding (take l.inst-index l.insts)) × (length l.code ≡ length l.initial.code + l.inst-index)
