use Rattle.std.proofs.Common.{◌≡◌, ◌≢◌, ap, arith, Some, rules}
use Rattle.run_scripts.specs.Command.{Save}
use Rattle.cvm_shell.proofs.WordsByPlaces.{six_texts}
use Rattle.cvm_shell.proofs.SaveWords.{words_of_save, words_of_one_save, no_save_by_turns, no_save_by_steps, no_save_by_word}
use Rattle.cvm_shell.proofs.saving_words.read_by.Goals as goal

pub returns-then-ne-clause-none : goal.returns-then-ne-clause-none
returns-then-ne-clause-none c =
    let e = six_texts _ _ _ _ _ _ _ _ c.as_slice.ensures.value c.in-len6.len_at_least c.in-len6.len_below c.word-item.is c.image-item.is c.schedule-item.is c.turns-item.is c.steps-item.is c.file-item.is in
    let other : c.as_str.result.now ≢ c.args.first.now = search rules in
    no_save_by_word _ _ _ _ _ _ _ _ e (rw c.as_str.ensures.value at other)

pub returns-then-ne-clause-only : goal.returns-then-ne-clause-only
returns-then-ne-clause-only c = λ x is.
    let e = six_texts _ _ _ _ _ _ _ _ c.as_slice.ensures.value c.in-len6.len_at_least c.in-len6.len_below c.word-item.is c.image-item.is c.schedule-item.is c.turns-item.is c.steps-item.is c.file-item.is in
    let other : c.as_str.result.now ≢ c.args.first.now = search rules in
    absurd (no_save_by_word _ _ _ _ _ _ _ _ e (rw c.as_str.ensures.value at other) x is)

pub returns-in_err-turns-clause-none : goal.returns-in_err-turns-clause-none
returns-in_err-turns-clause-none c =
    let e = six_texts _ _ _ _ _ _ _ _ c.as_slice.ensures.value c.in-len6.len_at_least c.in-len6.len_below c.word-item.is c.image-item.is c.schedule-item.is c.turns-item.is c.steps-item.is c.file-item.is in
    rw c.from_residual.ensures (no_save_by_turns _ _ _ _ _ _ _ _ e (rw c.as_str-2.ensures.value at c.in_err-turns.ensures))

pub returns-in_err-steps-clause-none : goal.returns-in_err-steps-clause-none
returns-in_err-steps-clause-none c =
    let e = six_texts _ _ _ _ _ _ _ _ c.as_slice.ensures.value c.in-len6.len_at_least c.in-len6.len_below c.word-item.is c.image-item.is c.schedule-item.is c.turns-item.is c.steps-item.is c.file-item.is in
    rw c.from_residual-in_err-steps.ensures (no_save_by_steps _ _ _ _ _ _ _ _ e (rw c.as_str-3.ensures.value at c.in_err-steps.ensures))

pub returns-clause-found : goal.returns-clause-found
returns-clause-found c =
    let e = six_texts _ _ _ _ _ _ _ _ c.as_slice.ensures.value c.in-len6.len_at_least c.in-len6.len_below c.word-item.is c.image-item.is c.schedule-item.is c.turns-item.is c.steps-item.is c.file-item.is in
    let word : c.as_str.result.now ≡ c.args.first.now = search rules in
    rw (c.as_str-4.ensures.value, c.as_str-5.ensures.value, c.as_str-6.ensures.value) (words_of_save _ _ _ _ _ _ _ _ _ _ e (rw c.as_str.ensures.value at word) (rw c.as_str-2.ensures.value at c.in_ok-turns.ensures.0) c.in_ok-turns.ensures.1 (omega arith)
    (rw c.as_str-3.ensures.value at c.in_ok-steps.ensures) (omega arith))

pub returns-clause-only : goal.returns-clause-only
returns-clause-only c =
    let e = six_texts _ _ _ _ _ _ _ _ c.as_slice.ensures.value c.in-len6.len_at_least c.in-len6.len_below c.word-item.is c.image-item.is c.schedule-item.is c.turns-item.is c.steps-item.is c.file-item.is in
    rw (c.as_str-4.ensures.value, c.as_str-5.ensures.value, c.as_str-6.ensures.value) (λ b is. ap (λ (x : Save). Some x) (words_of_one_save _ _ _ _ _ _ _ _ _ _ e (rw c.as_str-2.ensures.value at c.in_ok-turns.ensures.0) (omega arith)
    (rw c.as_str-3.ensures.value at c.in_ok-steps.ensures) (omega arith) b is))
