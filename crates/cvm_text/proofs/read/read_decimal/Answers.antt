-- What is read is spelled there, and where nothing is read no number is.
use Rattle.std.proofs.Common.{◌≡◌, rules, sym, ◌∙◌, ap, None, Some}
use Rattle.cvm_text.specs.Number.{is_spelling, value_of}
use Rattle.cvm_text.proofs.SpelledIsDecimal.{spelled_is, unspelled, too_large}
use Rattle.cvm_text.proofs.read.read_decimal.Goals as goal

pub returns-then-not-is_spelling-clause-none : goal.returns-then-not-is_spelling-clause-none
returns-then-not-is_spelling-clause-none c n small is =
    unspelled _ n (ap is_spelling (sym c.digits_at-digits.ensures.value) ∙ sym c.is_spelling.ensures ∙ c.if-not-is_spelling.true) small is

pub returns-in_err-value-clause-none : goal.returns-in_err-value-clause-none
returns-in_err-value-clause-none c =
    let failed : c.value_of.result ≡ None = search rules in
    let none : c.from_residual.result ≡ None = search rules in
    rw none (λ n small is. too_large _ n (ap value_of (sym c.digits_at-digits.ensures.value) ∙ sym c.value_of.ensures ∙ failed) small is)

pub returns-clause-spelled : goal.returns-clause-spelled
returns-clause-spelled c =
    let passed : c.value_of.result ≡ Some c.in_ok-value.value = search rules in
    sym c.digits_at-digits.ensures.value
    ∙ spelled_is _ c.in_ok-value.value c.digits_at-digits.ensures.digits (sym c.is_spelling.ensures ∙ c.if-not-is_spelling.false) (sym c.value_of.ensures ∙ passed)
