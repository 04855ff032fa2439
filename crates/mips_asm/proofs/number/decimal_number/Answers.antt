-- At most ten digits write a number below 10 ^ 10.
use Rattle.std.proofs.Common.{arith, sym, ◌∙◌}
use Rattle.mips_asm.proofs.NumbersReadBack.{decimal_small}
use Rattle.mips_asm.proofs.number.decimal_number.Goals as goal

pub decimal_value-requires-clause-fits : goal.decimal_value-requires-clause-fits
decimal_value-requires-clause-fits c = omega (arith, decimal_small c.args.digits.now (sym c.is_decimal.ensures ∙ c.if-is_decimal.true))

pub returns-then-is_decimal-clause-small : goal.returns-then-is_decimal-clause-small
returns-then-is_decimal-clause-small c = omega (arith, decimal_small c.args.digits.now (sym c.is_decimal.ensures ∙ c.if-is_decimal.true), c.decimal_value.ensures)
