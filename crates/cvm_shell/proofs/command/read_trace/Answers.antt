use Rattle.std.proofs.Common.{◌≡◌, ap, arith, Some, rules}
use Rattle.std.specs.Prelude.{codes}
use Rattle.run_scripts.specs.Command.{Trace}
use Rattle.cvm_shell.proofs.WordsByPlaces.{six_texts}
use Rattle.cvm_shell.proofs.OneNumberSpelled.{words_of_trace, words_of_one_trace, no_trace_by_turns, no_trace_by_steps, no_trace_by_user}
use Rattle.cvm_shell.proofs.command.read_trace.Goals as goal

pub returns-in_err-turns-clause-none : goal.returns-in_err-turns-clause-none
returns-in_err-turns-clause-none c =
    let e = six_texts _ _ _ _ _ _ _ _ c.as_slice.ensures.value c.in-len6.len_at_least c.in-len6.len_below c.word-item.is c.image-item.is c.schedule-item.is c.turns-item.is c.steps-item.is c.user-item.is in
    rw c.from_residual.ensures (no_trace_by_turns _ _ _ _ _ _ _ e (rw c.as_str-2.ensures.value at c.in_err-turns.ensures))

pub returns-in_err-steps-clause-none : goal.returns-in_err-steps-clause-none
returns-in_err-steps-clause-none c =
    let e = six_texts _ _ _ _ _ _ _ _ c.as_slice.ensures.value c.in-len6.len_at_least c.in-len6.len_below c.word-item.is c.image-item.is c.schedule-item.is c.turns-item.is c.steps-item.is c.user-item.is in
    rw c.from_residual-in_err-steps.ensures (no_trace_by_steps _ _ _ _ _ _ _ e (rw c.as_str-3.ensures.value at c.in_err-steps.ensures))

pub returns-in_err-user-clause-none : goal.returns-in_err-user-clause-none
returns-in_err-user-clause-none c =
    let e = six_texts _ _ _ _ _ _ _ _ c.as_slice.ensures.value c.in-len6.len_at_least c.in-len6.len_below c.word-item.is c.image-item.is c.schedule-item.is c.turns-item.is c.steps-item.is c.user-item.is in
    rw c.from_residual-in_err-user.ensures (no_trace_by_user _ _ _ _ _ _ _ e (rw c.as_str-4.ensures.value at c.in_err-user.ensures))

pub returns-clause-found : goal.returns-clause-found
returns-clause-found c =
    let e = six_texts _ _ _ _ _ _ _ _ c.as_slice.ensures.value c.in-len6.len_at_least c.in-len6.len_below c.word-item.is c.image-item.is c.schedule-item.is c.turns-item.is c.steps-item.is c.user-item.is in
    let word : c.as_str.result.now ≡ codes "trace" = search rules in
    rw (c.as_str-5.ensures.value, c.as_str-6.ensures.value) (words_of_trace _ _ _ _ _ _ _ _ _ _ e (rw c.as_str.ensures.value at word) (rw c.as_str-2.ensures.value at c.in_ok-turns.ensures.0) c.in_ok-turns.ensures.1 (omega arith) (rw c.as_str-3.ensures.value at c.in_ok-steps.ensures) (omega arith)
    (rw c.as_str-4.ensures.value at c.in_ok-user.ensures.0) c.in_ok-user.ensures.1 c.in_ok-user.ensures.2)

pub returns-clause-only : goal.returns-clause-only
returns-clause-only c =
    let e = six_texts _ _ _ _ _ _ _ _ c.as_slice.ensures.value c.in-len6.len_at_least c.in-len6.len_below c.word-item.is c.image-item.is c.schedule-item.is c.turns-item.is c.steps-item.is c.user-item.is in
    rw (c.as_str-5.ensures.value, c.as_str-6.ensures.value) (λ b is. ap (λ (x : Trace). Some x) (words_of_one_trace _ _ _ _ _ _ _ _ _ _ e (rw c.as_str-2.ensures.value at c.in_ok-turns.ensures.0) (omega arith) (rw c.as_str-3.ensures.value at c.in_ok-steps.ensures) (omega arith)
    (rw c.as_str-4.ensures.value at c.in_ok-user.ensures.0) c.in_ok-user.ensures.2 b is))
