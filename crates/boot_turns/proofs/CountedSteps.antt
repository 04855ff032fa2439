-- An untrapped step that keeps user mode is counted where a trace is printed, and has no rows.
-- It serves `step_traced` alone.
use Rattle.std.proofs.Common.{◌≡◌, ℕ, zero, suc, ◌+◌, ◌&&◌, Bool, true, false, Option, Some, None, Ok, List, [], ◌∷◌, slice_index, refl, sym, ap, ap₂, ◌∙◌, subst}
use Rattle.std.specs.Prelude.{◌==◌, not, if◌then◌else◌, nat_lt, IfSome}
use Rattle.std.specs.Option.{option_map}
use Rattle.std.proofs.lemmas.Bool.{cond-false}
use Rattle.mips_table.specs.Device.{Environment}
use Rattle.mips_table.specs.declared.special.TheConstants.{MODE}
use Rattle.mips_table.specs.Machine.{State, in_system, step}
use Rattle.mips_table.specs.Turns.{is_on, begins_turn}
use Rattle.mips_machine.specs.Machine.{Held, state_of}
use Rattle.layer_map.specs.Map.{Map, current_at}
use Rattle.c0_tree.specs.Tree.{CUnit}
use Rattle.c0_meaning.specs.TypedState.{IsTypedState}
use Rattle.cvm_model.specs.Kernel.{JournalEntry, Trapped, Stepped as Untrapped}
use Rattle.layer_contract.specs.declared.entry.Entry.TheVariants.{Primitive}
use Rattle.layer_contract.specs.Layer.{layer_entry}
use Rattle.boot_report.specs.Told.{WordsTell}
use Rattle.boot_turns.specs.declared.completion.Stepped.{Stepped}
use Rattle.boot_turns.specs.declared.tracer.Entered.{Entered}
use Rattle.boot_turns.specs.declared.tracer.Tracer.{Tracer}
use Rattle.boot_turns.specs.Completes.{state_seen, note}
use Rattle.boot_turns.specs.Entries.{turn_begins, TracesGrow}
use Rattle.boot_turns.specs.Returns.{entry_note, noted_at, notes_on}
use Rattle.boot_turns.specs.JournalText.{steps_after, RowsFollow}
use Rattle.boot_turns.specs.Tracing.{counted_step, followed, kept_after}
use Rattle.boot_turns.specs.TraceSteps.{StepTraces}
use Rattle.boot_turns.proofs.EntryReached.{is_at}
use Rattle.boot_turns.proofs.TraceLoops.{step_goes, step_untraced}

-- in user mode no primitive is entered
no_entry : (n : ℕ) (s : State) → slice_index s.special MODE ≡ 1 → noted_at n s ≡ None
no_entry zero s h = refl
no_entry (suc k) s h =
    cond-false (is_at k s) (Some (entry_note k s)) (noted_at k s) (second_false (is_on s) (in_system s.special) (s.cpu.pc == layer_entry (Primitive k)) (ap (λ m. m == 0) h)) ∙ no_entry k s h
  where
    second_false : (a b c : Bool) → b ≡ false → (a && b && c) ≡ false
    second_false true b c e = ap (λ b. b && c) e
    second_false false b c e = refl

-- the entries of such a step are none, or one that has no row yet
begins_as : (s : State) (u current : ℕ) → slice_index s.special MODE ≡ 1 → turn_begins u current (note s) ≡ (if current == u then Untrapped ∷ [] else [])
begins_as s u current h =
    let trapped : List JournalEntry = if nat_lt 1 (note s).cause then Trapped (note s).cause (note s).edata ∷ [] else [] in
    ap (λ (m : ℕ). if current == u then (if not (m == 1) then trapped else Untrapped ∷ []) else []) h

one_more : (n : ℕ) (b : Bool) → steps_after n (if b then Untrapped ∷ [] else []) ≡ (if b then n + 1 else n)
one_more n true = refl
one_more n false = refl

module _ (s : State) (k : Tracer) (current : ℕ) (words : List ℕ) (user : slice_index s.special MODE ≡ 1) (free : k.call ≡ None) where
  pub counted_kept : counted_step current k ≡ kept_after s k current true words
  counted_kept = ap₂ (λ (n : ℕ) (c : Option Entered). record k { steps = n; call = c }) (sym counted_steps) called
    where
      counted_steps : steps_after k.steps (followed s k current true words) ≡ (if current == k.user then k.steps + 1 else k.steps)
      counted_steps = ap (steps_after k.steps) (begins_as s k.user current user) ∙ one_more k.steps (current == k.user)

      called : k.call ≡ notes_on s k.call
      called = free ∙ sym (ap (notes_on s) free ∙ no_entry 10 s user)

-- THE STEP of a trace that is counted
pub step_counted : (grow : (c : CUnit) → TracesGrow (IsTypedState c)) (f : RowsFollow) (tell : WordsTell) (x : Environment) (m : Map) (held : Held) (told : Option (List (List ℕ))) (before after : Option Tracer) → held.hardware.off ≡ None →
    (mid : Held) (midtold : Option (List (List ℕ))) → state_seen midtold mid ≡ option_map (step x) (state_seen told held) → (current : ℕ) → IfSome before (λ _. current ≡ slice_index held.hardware.memory current_at) →
    IfSome (state_seen told held) (λ s. true ≡ begins_turn x s) → slice_index mid.hardware.special MODE ≡ 1 → IfSome before (λ k. k.call ≡ None) → after ≡ option_map (counted_step current) before → (stepped : Stepped) →
    StepTraces x m held told before after (Ok stepped)
step_counted grow f tell x m held told None after on mid midtold ran current is began user free counts stepped = step_untraced x m held told after (Ok stepped)
step_counted grow f tell x m held told (Some k) after on mid midtold ran current is began user free counts stepped =
    subst (λ (t : Option Tracer). StepTraces x m held told (Some k) t (Ok stepped)) (sym counts)
    (step_goes grow f tell x m held told k on mid midtold ran current is true began stepped (Some k) (counted_step current k) refl
    (λ ss words e t. counted_kept (state_of mid ss) k current words user free))
