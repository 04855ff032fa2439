-- The entries of one step, by what it began or which primitive returned, and the rows of words that were copied.
use Rattle.std.proofs.Common.{◌≡◌, ◌≢◌, ℕ, ◌/◌, ◌≤◌, ◌&&◌, Bool, true, false, List, [], ◌∷◌, length, Option, Some, None, take, drop, slice_index, refl, sym, ap, ap₂, ◌∙◌, subst, eq-eqb, ne_eqb, take-take, length-drop, length-take-le, arith}
use Rattle.std.specs.Prelude.{◌==◌}
use Rattle.std.proofs.lemmas.Bool.{cond-true, cond-false}
use Rattle.mips_table.specs.Machine.{State}
use Rattle.layer_map.specs.Map.{Map}
use Rattle.cvm_model.specs.Kernel.{JournalEntry, Set, Size, Put}
use Rattle.cvm_model.specs.Primitives.{put_entries}
use Rattle.cvm_model.specs.Text.{journal_rows_after}
use Rattle.cvm_model.specs.Paged.{paged_of}
use Rattle.boot_report.specs.Told.{WordsAreTold}
use Rattle.layer_contract.specs.declared.registers.TheConstants.{ANSWER}
use Rattle.boot_turns.specs.declared.completion.Begun.{Begun}
use Rattle.boot_turns.specs.declared.tracer.Entered.{Entered}
use Rattle.boot_turns.specs.declared.tracer.Tracer.{Tracer}
use Rattle.boot_turns.specs.Completes.{note}
use Rattle.boot_turns.specs.Copies.{copied_kept, steps_left}
use Rattle.boot_turns.specs.Entries.{IsPlaced, call_ends, turn_begins, return_entries}
use Rattle.boot_turns.specs.Returns.{returned, notes_on}
use Rattle.boot_turns.specs.JournalText.{steps_after}
use Rattle.boot_turns.specs.Tracing.{ReturnTold, followed, ended_kept, kept_after}
use Rattle.boot_turns.proofs.CopiedRowsArePut.{copy_rows, puts_first, puts_length, copies_tell, left_is}

-- the entries of a primitive that has copied words to the user
pub copy_is : (u : ℕ) (e : Entered) (answer : ℕ) (words : List ℕ) → answer ≡ 1 → slice_index e.arguments 2 ≡ u → e.primitive ≡ 6 →
    call_ends u e answer words ≡ put_entries (slice_index e.arguments 3) (take (slice_index e.arguments 4) (drop (slice_index e.arguments 3 / 4) words))
copy_is u e answer words one user sixth =
    cond-true (answer == 1) _ [] (eq-eqb _ _ one)
    ∙ cond-false (e.primitive == 1 && slice_index e.arguments 0 == u) (Set (slice_index e.arguments 1) (slice_index e.arguments 2) ∷ []) _ (ap (λ p. p == 1 && slice_index e.arguments 0 == u) sixth)
    ∙ cond-false (e.primitive == 3 && slice_index e.arguments 0 == u) (Size (slice_index e.arguments 1) ∷ []) _ (ap (λ p. p == 3 && slice_index e.arguments 0 == u) sixth)
    ∙ cond-false (e.primitive == 5 && slice_index e.arguments 0 == u) (Put (slice_index e.arguments 1) (slice_index e.arguments 2) ∷ []) _ (ap (λ p. p == 5 && slice_index e.arguments 0 == u) sixth)
    ∙ cond-true (e.primitive == 6 && slice_index e.arguments 2 == u) (put_entries (slice_index e.arguments 3) (take (slice_index e.arguments 4) (drop (slice_index e.arguments 3 / 4) words))) []
    (ap (λ p. p == 6 && slice_index e.arguments 2 == u) sixth ∙ eq-eqb _ _ user)

module _ (m : Map) (s : State) (u steps answer : ℕ) (e : Entered) (words : List ℕ) (one : answer ≡ 1) (user : slice_index e.arguments 2 ≡ u) (sixth : e.primitive ≡ 6)
    (told : WordsAreTold m s u words) (placed : IsPlaced u e answer words) where
  pub copied_steps : steps_left steps (slice_index e.arguments 4) ≡ steps_after steps (call_ends u e answer words)
  copied_steps =
      sym (left_is m (paged_of m s) u steps (slice_index e.arguments 3) (slice_index e.arguments 4))
      ∙ ap (λ ws. steps_after steps (put_entries (slice_index e.arguments 3) ws)) (copies_tell m s u (slice_index e.arguments 3 / 4) (slice_index e.arguments 4) words told (placed one sixth user))
      ∙ ap (steps_after steps) (sym (copy_is u e answer words one user sixth))

  -- the first of its entries have the rows of the first words, as the pages show them
  pub first_rows : (i : ℕ) → i ≤ slice_index e.arguments 4 → copy_rows m (paged_of m s) u steps (slice_index e.arguments 3) i ≡ journal_rows_after false steps (take i (call_ends u e answer words))
  first_rows i le =
      let there = placed one sixth user in
      ap (λ ws. journal_rows_after false steps (put_entries (slice_index e.arguments 3) ws)) (copies_tell m s u (slice_index e.arguments 3 / 4) i words told (omega (arith, there, le)) ∙ sym (take-take i (slice_index e.arguments 4) (drop (slice_index e.arguments 3 / 4) words) le))
      ∙ ap (journal_rows_after false steps) (puts_first i (slice_index e.arguments 3) (take (slice_index e.arguments 4) (drop (slice_index e.arguments 3 / 4) words)) ∙ ap (take i) (sym (copy_is u e answer words one user sixth)))

  -- and there is an entry for each word
  pub copied_length : length (call_ends u e answer words) ≡ slice_index e.arguments 4
  copied_length =
      let there = placed one sixth user in
      let long = length-drop (slice_index e.arguments 3 / 4) words in
      ap (λ (j : List JournalEntry). length j) (copy_is u e answer words one user sixth) ∙ puts_length (slice_index e.arguments 3) (take (slice_index e.arguments 4) (drop (slice_index e.arguments 3 / 4) words))
      ∙ length-take-le (slice_index e.arguments 4) (drop (slice_index e.arguments 3 / 4) words) (omega (arith, long, there))

-- so that is kept which the primitive's entries leave
pub copied_then : (m : Map) (s : State) (kept : Tracer) (answer : ℕ) (e : Entered) (words : List ℕ) → answer ≡ 1 → slice_index e.arguments 2 ≡ kept.user → e.primitive ≡ 6 →
    WordsAreTold m s kept.user words → IsPlaced kept.user e answer words → copied_kept kept (slice_index e.arguments 4) ≡ ended_kept kept e answer words
copied_then m s kept answer e words one user sixth told placed = ap (λ (n : ℕ). record kept { steps = n }) (copied_steps m s kept.user kept.steps answer e words one user sixth told placed)

-- what follows a step, by what the code tests
module _ (s : State) (kept : Tracer) (current : ℕ) (began : Bool) (words : List ℕ) where
  -- what is kept behind these entries
  module _ (j : List JournalEntry) (is : followed s kept current began words ≡ j) where
    pub kept_then : (mid : Tracer) (next : Option Entered) → mid ≡ record kept { steps = steps_after kept.steps j } → next ≡ notes_on s kept.call → record mid { call = next } ≡ kept_after s kept current began words
    kept_then mid next e noted =
        ap₂ (λ (t : Tracer) (c : Option Entered). record t { call = c }) e noted
        ∙ ap (λ (d : List JournalEntry). record { user = kept.user; steps = steps_after kept.steps d; call = notes_on s kept.call }) (sym is)

  -- a turn began, of the user that is traced or of another
  pub own_turn : (b : Begun) → began ≡ true → b ≡ note s → followed s kept current began words ≡ turn_begins kept.user current b
  own_turn b e is = cond-true began (turn_begins kept.user current (note s)) (return_entries kept.user s words (returned s kept.call)) e ∙ ap (turn_begins kept.user current) (sym is)

  pub other_turn : began ≡ true → current ≢ kept.user → followed s kept current began words ≡ []
  other_turn e other = own_turn (note s) e refl ∙ cond-false (current == kept.user) _ [] (ne_eqb current kept.user other)

  -- none began: a primitive returned, or none did
  not_begun : (r : Option Entered) → began ≡ false → r ≡ returned s kept.call → followed s kept current began words ≡ return_entries kept.user s words r
  not_begun r e is = cond-false began (turn_begins kept.user current (note s)) (return_entries kept.user s words (returned s kept.call)) e ∙ ap (return_entries kept.user s words) (sym is)

  pub none_returned : (r : Option Entered) → began ≡ false → r ≡ returned s kept.call → r ≡ None → followed s kept current began words ≡ []
  none_returned r e is none = not_begun r e is ∙ ap (return_entries kept.user s words) none

  module _ (m : Map) (r : Option Entered) (e : Entered) (answer : ℕ) (no : began ≡ false) (is : r ≡ returned s kept.call) (one : r ≡ Some e) (a : answer ≡ slice_index s.cpu.regs ANSWER)
      (told : ReturnTold m s kept.user words (returned s kept.call)) where
    told_there : ReturnTold m s kept.user words (Some e)
    told_there = subst (ReturnTold m s kept.user words) (sym is ∙ one) told

    placed : IsPlaced kept.user e answer words
    placed = subst (λ n. IsPlaced kept.user e n words) (sym a) told_there.1

    pub call_returned : followed s kept current began words ≡ call_ends kept.user e answer words
    call_returned = not_begun r no is ∙ ap (return_entries kept.user s words) one ∙ ap (λ n. call_ends kept.user e n words) (sym a)

    pub call_kept : (mid : Tracer) (next : Option Entered) → (WordsAreTold m s kept.user words → IsPlaced kept.user e answer words → mid ≡ ended_kept kept e answer words) → (mid.call ≡ kept.call → next ≡ notes_on s kept.call) →
        record mid { call = next } ≡ kept_after s kept current began words
    call_kept mid next ends n =
        let same : mid ≡ ended_kept kept e answer words = ends told_there.0 placed in
        kept_then (call_ends kept.user e answer words) call_returned mid next same (n (ap (λ (t : Tracer). t.call) same))
