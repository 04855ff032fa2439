use Rattle.std.proofs.Common.{◌≡◌, arith, rules}
use Rattle.std.specs.Prelude.{codes}
use Rattle.cvm_shell.proofs.WordsByPlaces.{two_texts}
use Rattle.cvm_shell.proofs.OneNumberSpelled.{words_of_sample, words_of_one_sample, no_sample}
use Rattle.cvm_shell.proofs.command.read_sample.Goals as goal

pub returns-in_err-number-clause-none : goal.returns-in_err-number-clause-none
returns-in_err-number-clause-none c =
    let e = two_texts _ _ _ _ c.as_slice.ensures.value c.in-len2.len_at_least c.in-len2.len_below c.word-item.is c.number-item.is in
    rw c.from_residual.ensures (no_sample _ _ _ e (rw c.as_str-2.ensures.value at c.in_err-number.ensures))

pub returns-clause-found : goal.returns-clause-found
returns-clause-found c =
    let e = two_texts _ _ _ _ c.as_slice.ensures.value c.in-len2.len_at_least c.in-len2.len_below c.word-item.is c.number-item.is in
    let word : c.as_str.result.now ≡ codes "sample" = search rules in
    words_of_sample _ _ _ _ e (rw c.as_str.ensures.value at word) (rw c.as_str-2.ensures.value at c.in_ok-number.ensures) (omega arith)

pub returns-clause-only : goal.returns-clause-only
returns-clause-only c =
    let e = two_texts _ _ _ _ c.as_slice.ensures.value c.in-len2.len_at_least c.in-len2.len_below c.word-item.is c.number-item.is in
    words_of_one_sample _ _ _ _ e (rw c.as_str-2.ensures.value at c.in_ok-number.ensures) (omega arith)
