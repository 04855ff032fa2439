use Rattle.std.proofs.Common.{ap, arith, Some}
use Rattle.run_scripts.specs.Command.{BootCommand}
use Rattle.cvm_shell.proofs.WordsByPlaces.{five_texts}
use Rattle.cvm_shell.proofs.OneNumberSpelled.{words_of_boot, words_of_one, none_for_start, none_for_turns, none_for_steps}
use Rattle.cvm_shell.proofs.command.read_boot.Goals as goal

pub returns-in_err-start-clause-none : goal.returns-in_err-start-clause-none
returns-in_err-start-clause-none c =
    let e = five_texts _ _ _ _ _ _ _ c.as_slice.ensures.value c.in-len5.len_at_least c.in-len5.len_below c.word-item.is c.image-item.is c.schedule-item.is c.turns-item.is c.steps-item.is in
    rw c.from_residual.ensures (none_for_start _ _ _ _ _ _ e (rw c.as_str.ensures.value at c.in_err-start.ensures))

pub returns-in_err-turns-clause-none : goal.returns-in_err-turns-clause-none
returns-in_err-turns-clause-none c =
    let e = five_texts _ _ _ _ _ _ _ c.as_slice.ensures.value c.in-len5.len_at_least c.in-len5.len_below c.word-item.is c.image-item.is c.schedule-item.is c.turns-item.is c.steps-item.is in
    rw c.from_residual-in_err-turns.ensures (none_for_turns _ _ _ _ _ _ e (rw c.as_str-2.ensures.value at c.in_err-turns.ensures))

pub returns-in_err-steps-clause-none : goal.returns-in_err-steps-clause-none
returns-in_err-steps-clause-none c =
    let e = five_texts _ _ _ _ _ _ _ c.as_slice.ensures.value c.in-len5.len_at_least c.in-len5.len_below c.word-item.is c.image-item.is c.schedule-item.is c.turns-item.is c.steps-item.is in
    rw c.from_residual-in_err-steps.ensures (none_for_steps _ _ _ _ _ _ e (rw c.as_str-3.ensures.value at c.in_err-steps.ensures))

pub returns-clause-found : goal.returns-clause-found
returns-clause-found c =
    let e = five_texts _ _ _ _ _ _ _ c.as_slice.ensures.value c.in-len5.len_at_least c.in-len5.len_below c.word-item.is c.image-item.is c.schedule-item.is c.turns-item.is c.steps-item.is in
    rw (c.as_str-4.ensures.value, c.as_str-5.ensures.value) (words_of_boot _ _ _ _ _ _ _ _ _ e (rw c.as_str.ensures.value at c.in_ok-start.ensures) (rw c.as_str-2.ensures.value at c.in_ok-turns.ensures.0) c.in_ok-turns.ensures.1 (omega arith) (rw c.as_str-3.ensures.value at c.in_ok-steps.ensures) (omega arith))

pub returns-clause-only : goal.returns-clause-only
returns-clause-only c =
    let e = five_texts _ _ _ _ _ _ _ c.as_slice.ensures.value c.in-len5.len_at_least c.in-len5.len_below c.word-item.is c.image-item.is c.schedule-item.is c.turns-item.is c.steps-item.is in
    rw (c.as_str-4.ensures.value, c.as_str-5.ensures.value) (λ b is. ap (λ (x : BootCommand). Some x) (words_of_one _ _ _ _ _ _ _ _ _ e (rw c.as_str.ensures.value at c.in_ok-start.ensures) (rw c.as_str-2.ensures.value at c.in_ok-turns.ensures.0) (omega arith) (rw c.as_str-3.ensures.value at c.in_ok-steps.ensures) (omega arith) b is))
