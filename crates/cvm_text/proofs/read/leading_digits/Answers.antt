-- The loop stops at the first byte that is no digit, which is where the longest front of digits ends.
use Rattle.std.proofs.Common.{sym, ◌∙◌, take, take_all, ap, length, arith}
use Rattle.std.specs.List.{list_all}
use Rattle.std.specs.Char.{is_ascii_digit}
use Rattle.cvm_text.proofs.FrontsOfDigits.{prefix_len_at, prefix_len_all}
use Rattle.cvm_text.proofs.read.leading_digits.Goals as goal

pub returns-then-not-is_ascii_digit-clause-value : goal.returns-then-not-is_ascii_digit-clause-value
returns-then-not-is_ascii_digit-clause-value c =
    ap (λ n. take n c.args.text.now)
    (prefix_len_at is_ascii_digit c.args.text.now c.loop-index.index c.loop-index-test.true c.loop-index.invariant
    (sym c.is_ascii_digit.ensures.value ∙ c.if-not-is_ascii_digit.true))

pub returns-clause-value : goal.returns-clause-value
returns-clause-value c =
    let all = sym (ap (list_all is_ascii_digit) (take_all c.loop-index.index c.args.text.now c.loop-index-test.false)) ∙ c.loop-index.invariant in
    sym (ap (λ n. take n c.args.text.now) (sym (prefix_len_all is_ascii_digit c.args.text.now all)) ∙ take_all (length c.args.text.now) c.args.text.now (omega arith))
