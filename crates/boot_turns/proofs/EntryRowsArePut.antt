-- The rows of the entries of a step, put after those of the steps before it.
use Rattle.std.proofs.Common.{◌≡◌, ℕ, ◌&&◌, ◌<◌, true, false, slice_index, List, [], ◌∷◌, ◌++◌, Result, Ok, Err, OnErr, sym, ap, ◌∙◌, append-nil, eq-eqb, lt-ltb}
use Rattle.std.specs.Prelude.{◌==◌, nat_lt}
use Rattle.std.proofs.lemmas.Bool.{cond-true, cond-false}
use Rattle.cvm_model.specs.Kernel.{Stepped, Trapped, Set, Size, Put}
use Rattle.cvm_model.specs.Text.{steps_row, entry_row, journal_rows_after}
use Rattle.boot_turns.specs.declared.completion.Begun.{Begun}
use Rattle.boot_turns.specs.declared.tracer.Entered.{Entered}
use Rattle.boot_turns.specs.Entries.{turn_begins, call_ends}

-- what holds in any case holds of an error
pub on_any_err : {T E P : Type 0} (r : Result T E) → P → OnErr r P
on_any_err (Ok v) h = tt
on_any_err (Err e) h = h

-- the entry of a turn of the user that begins with a trap
pub trap_is : (u current : ℕ) (b : Begun) → current ≡ u → b.dispatched ≡ true → 1 < b.cause → turn_begins u current b ≡ Trapped b.cause b.edata ∷ []
trap_is u current b own dispatched above =
    cond-true (current == u) _ [] (eq-eqb _ _ own)
    ∙ cond-true b.dispatched _ (Stepped ∷ []) dispatched
    ∙ cond-true (nat_lt 1 b.cause) (Trapped b.cause b.edata ∷ []) [] (lt-ltb 1 b.cause above)

-- the entry of a register that was set, and of a size
pub set_is : (u : ℕ) (e : Entered) (answer : ℕ) → answer ≡ 1 → slice_index e.arguments 0 ≡ u → e.primitive ≡ 1 → call_ends u e answer [] ≡ Set (slice_index e.arguments 1) (slice_index e.arguments 2) ∷ []
set_is u e answer one user first =
    cond-true (answer == 1) _ [] (eq-eqb _ _ one)
    ∙ cond-true (e.primitive == 1 && slice_index e.arguments 0 == u) (Set (slice_index e.arguments 1) (slice_index e.arguments 2) ∷ []) _ (ap (λ p. p == 1 && slice_index e.arguments 0 == u) first ∙ eq-eqb _ _ user)

pub size_is : (u : ℕ) (e : Entered) (answer : ℕ) → answer ≡ 1 → slice_index e.arguments 0 ≡ u → e.primitive ≡ 3 → call_ends u e answer [] ≡ Size (slice_index e.arguments 1) ∷ []
size_is u e answer one user third =
    cond-true (answer == 1) _ [] (eq-eqb _ _ one)
    ∙ cond-false (e.primitive == 1 && slice_index e.arguments 0 == u) (Set (slice_index e.arguments 1) (slice_index e.arguments 2) ∷ []) _ (ap (λ p. p == 1 && slice_index e.arguments 0 == u) third)
    ∙ cond-true (e.primitive == 3 && slice_index e.arguments 0 == u) (Size (slice_index e.arguments 1) ∷ []) _ (ap (λ p. p == 3 && slice_index e.arguments 0 == u) third ∙ eq-eqb _ _ user)

-- the entry of a word that was put
pub put_is : (u : ℕ) (e : Entered) (answer : ℕ) → answer ≡ 1 → slice_index e.arguments 0 ≡ u → e.primitive ≡ 5 → call_ends u e answer [] ≡ Put (slice_index e.arguments 1) (slice_index e.arguments 2) ∷ []
put_is u e answer one user fifth =
    cond-true (answer == 1) _ [] (eq-eqb _ _ one)
    ∙ cond-false (e.primitive == 1 && slice_index e.arguments 0 == u) (Set (slice_index e.arguments 1) (slice_index e.arguments 2) ∷ []) _ (ap (λ p. p == 1 && slice_index e.arguments 0 == u) fifth)
    ∙ cond-false (e.primitive == 3 && slice_index e.arguments 0 == u) (Size (slice_index e.arguments 1) ∷ []) _ (ap (λ p. p == 3 && slice_index e.arguments 0 == u) fifth)
    ∙ cond-true (e.primitive == 5 && slice_index e.arguments 0 == u) (Put (slice_index e.arguments 1) (slice_index e.arguments 2) ∷ []) _ (ap (λ p. p == 5 && slice_index e.arguments 0 == u) fifth ∙ eq-eqb _ _ user)

pub put_text : (u n : ℕ) (e : Entered) (answer : ℕ) (row : List ℕ) → call_ends u e answer [] ≡ Put (slice_index e.arguments 1) (slice_index e.arguments 2) ∷ [] → row ≡ entry_row (Put (slice_index e.arguments 1) (slice_index e.arguments 2)) →
    steps_row n ++ row ≡ journal_rows_after false n (call_ends u e answer [])
put_text u n e answer row is r = ap (λ row. steps_row n ++ row) r ∙ sym (append-nil _) ∙ ap (journal_rows_after false n) (sym is)
