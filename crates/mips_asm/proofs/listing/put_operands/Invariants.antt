-- The operands so far are written, and the others follow.
use Rattle.std.proofs.Common.{◌≡◌, ◌++◌, drop, codes}
use Rattle.mips_asm.specs.Listing.{listed_operands, separator_at}
use Rattle.mips_asm.proofs.listing.put_operands.Given as goal

abbrev pub invariant-loop-index : goal.invariant-loop-index
invariant-loop-index l = l.out.items ++ listed_operands (separator_at l.index) (drop l.index l.operands) ≡ l.initial.out.items ++ listed_operands (codes " ") l.operands
