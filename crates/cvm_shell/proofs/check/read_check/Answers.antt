use Rattle.std.proofs.Common.{◌≡◌, rules}
use Rattle.std.specs.Prelude.{codes}
use Rattle.cvm_shell.proofs.WordsByPlaces.{three_texts}
use Rattle.cvm_shell.proofs.CheckWords.{words_of_check, words_of_one_check, no_check}
use Rattle.cvm_shell.proofs.check.read_check.Goals as goal

pub returns-in_err-stack-clause-none : goal.returns-in_err-stack-clause-none
returns-in_err-stack-clause-none c =
    let e = three_texts _ _ _ _ _ c.as_slice.ensures.value c.in-len3.len_at_least c.in-len3.len_below c.word-item.is c.object-item.is c.stack-item.is in
    rw c.from_residual.ensures (no_check _ _ _ _ e (rw c.as_str-2.ensures.value at c.in_err-stack.ensures))

pub returns-clause-found : goal.returns-clause-found
returns-clause-found c =
    let e = three_texts _ _ _ _ _ c.as_slice.ensures.value c.in-len3.len_at_least c.in-len3.len_below c.word-item.is c.object-item.is c.stack-item.is in
    let word : c.as_str.result.now ≡ codes "check" = search rules in
    rw c.as_str-3.ensures.value (words_of_check _ _ _ _ _ e (rw c.as_str.ensures.value at word) (rw c.as_str-2.ensures.value at c.in_ok-stack.ensures.0) c.in_ok-stack.ensures.1 c.in_ok-stack.ensures.2)

pub returns-clause-only : goal.returns-clause-only
returns-clause-only c =
    let e = three_texts _ _ _ _ _ c.as_slice.ensures.value c.in-len3.len_at_least c.in-len3.len_below c.word-item.is c.object-item.is c.stack-item.is in
    rw c.as_str-3.ensures.value (words_of_one_check _ _ _ _ _ e (rw c.as_str-2.ensures.value at c.in_ok-stack.ensures.0) c.in_ok-stack.ensures.2)
