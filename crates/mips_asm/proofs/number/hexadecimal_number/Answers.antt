-- At most eight digits write a number below 2 ^ 32.
use Rattle.std.proofs.Common.{arith, sym, ◌∙◌}
use Rattle.mips_asm.proofs.NumbersReadBack.{hexadecimal_fits}
use Rattle.mips_asm.proofs.number.hexadecimal_number.Goals as goal

pub hexadecimal_value-requires-clause-fits : goal.hexadecimal_value-requires-clause-fits
hexadecimal_value-requires-clause-fits c = omega (arith, hexadecimal_fits c.args.digits.now (sym c.is_hexadecimal.ensures ∙ c.if-is_hexadecimal.true))

pub returns-then-is_hexadecimal-clause-small : goal.returns-then-is_hexadecimal-clause-small
returns-then-is_hexadecimal-clause-small c = omega (arith, hexadecimal_fits c.args.digits.now (sym c.is_hexadecimal.ensures ∙ c.if-is_hexadecimal.true), c.hexadecimal_value.ensures)
