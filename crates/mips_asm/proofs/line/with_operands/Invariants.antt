-- The line so far with the operands that are left is the line with all operands.
use Rattle.std.proofs.Common.{◌≡◌, drop}
use Rattle.mips_asm.specs.Line.{with_operands, operand_texts}
use Rattle.mips_asm.specs.View.{line_view, parts_left}
use Rattle.mips_asm.proofs.line.with_operands.Given as goal

abbrev pub invariant-loop-kind : goal.invariant-loop-kind
invariant-loop-kind l = with_operands (line_view l.line) (drop l.kind-index l.kinds) (parts_left l.rest) ≡ with_operands (line_view l.initial.line) l.kinds (operand_texts l.text)
