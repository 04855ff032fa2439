-- No byte so far is of the kind.
use Rattle.std.proofs.Common.{◌≡◌, ◌==◌, not, true, take}
use Rattle.std.specs.List.{list_all}
use Rattle.mips_asm.proofs.operand.len_before.Given as goal

abbrev pub invariant-loop-index : goal.invariant-loop-index
invariant-loop-index l = list_all (λ c. not (c == l.byte)) (take l.index l.text) ≡ true
