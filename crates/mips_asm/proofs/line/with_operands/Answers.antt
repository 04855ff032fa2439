-- Too few operands, a code that is left out, and too many.
use Rattle.std.proofs.Common.{sym, ◌∙◌}
use Rattle.mips_asm.specs.View.{line_view}
use Rattle.mips_asm.proofs.TooFewOrTooMany.{too_many}
use Rattle.mips_asm.proofs.line.with_operands.Goals as goal

pub returns-in-Some-rest : goal.returns-in-Some-rest
returns-in-Some-rest c = sym (too_many (line_view c.loop-kind.line) c.args.kinds.now c.loop-kind.kind-index c.loop-kind.rest _ c.loop-kind-test.false c.in-Some-rest.is) ∙ c.loop-kind.invariant
