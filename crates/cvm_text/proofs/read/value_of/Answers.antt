-- The value passes the limit with some digit exactly where it does with all of them.
use Rattle.std.proofs.Common.{◌≡◌, rules, sym, ◌∙◌, ap, take_all, None, Some}
use Rattle.std.specs.Str.Parse.{digits_value}
use Rattle.cvm_text.proofs.FrontsOfDigits.{limit_is_small, step_none, step_some, small_value}
use Rattle.cvm_text.proofs.read.value_of.Goals as goal

pub returns-in_err-value : goal.returns-in_err-value
returns-in_err-value c =
    let none : c.from_residual.result ≡ None = search rules in
    let failed : c.with_digit.result ≡ None = search rules in
    none ∙ step_none c.args.digits.now c.loop-digit.digit-index c.loop-digit.value c.requires c.loop-digit-test.true c.loop-digit.invariant.0 (sym c.with_digit.ensures ∙ failed)

pub loop-digit-preserved : goal.loop-digit-preserved
loop-digit-preserved c =
    let passed : c.with_digit.result ≡ Some c.in_ok-value.value = search rules in (
      step_some c.args.digits.now c.loop-digit.digit-index c.loop-digit.value c.in_ok-value.value c.requires c.loop-digit-test.true c.loop-digit.invariant.0 (sym c.with_digit.ensures ∙ passed),
      limit_is_small _ c.in_ok-value.value (sym c.with_digit.ensures ∙ passed),
    )

pub returns : goal.returns
returns c =
    let all = c.loop-digit.invariant.0 ∙ ap (digits_value 10) (take_all c.loop-digit.digit-index c.args.digits.now c.loop-digit-test.false) in
    small_value c.args.digits.now c.loop-digit.value all c.loop-digit.invariant.1
