-- A number that is too large so far stays too large.
use Rattle.std.proofs.Common.{arith}
use Rattle.c0_tokens.proofs.BlanksAndDigits.{digits_value_too_large}
use Rattle.c0_tokens.proofs.lexer.digits_value.Goals as goal

pub returns-then-value-gt-MAX_NUMBER : goal.returns-then-value-gt-MAX_NUMBER
returns-then-value-gt-MAX_NUMBER c small =
    omega (arith, digits_value_too_large c.args.digits.now c.loop-digit.digit-index 2147483647 c.loop-digit-test.true (omega arith))
