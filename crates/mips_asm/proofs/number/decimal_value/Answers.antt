-- The value so far never passes that of all digits, so no step overflows.
use Rattle.std.proofs.Common.{get_or, arith}
use Rattle.std.specs.Char.{is_ascii_digit}
use Rattle.std.proofs.lemmas.Int.Digits.{digits_value_more}
use Rattle.mips_asm.proofs.NumbersReadBack.{next_fits, all_at, digit_is}
use Rattle.mips_asm.proofs.number.decimal_value.Goals as goal

pub overflow_mul-n : goal.overflow_mul-n
overflow_mul-n c = omega (arith, next_fits 10 c.args.digits.now c.loop-c.c-index c.loop-c.n (omega arith) c.loop-c-test.true c.loop-c.invariant, c.requires.fits)

pub overflow_add-n : goal.overflow_add-n
overflow_add-n c =
    let digit = digit_is (get_or c.args.digits.now c.loop-c.c-index 0) c.from.result (all_at is_ascii_digit c.args.digits.now c.loop-c.c-index 0 c.requires.digits c.loop-c-test.true) c.from.ensures in
    omega (arith, digit, next_fits 10 c.args.digits.now c.loop-c.c-index c.loop-c.n (omega arith) c.loop-c-test.true c.loop-c.invariant, c.requires.fits)

pub loop-c-preserved : goal.loop-c-preserved
loop-c-preserved c =
    let digit = digit_is (get_or c.args.digits.now c.loop-c.c-index 0) c.from.result (all_at is_ascii_digit c.args.digits.now c.loop-c.c-index 0 c.requires.digits c.loop-c-test.true) c.from.ensures in
    omega (arith, digit, digits_value_more 10 c.args.digits.now c.loop-c.c-index c.loop-c-test.true, c.loop-c.invariant)
