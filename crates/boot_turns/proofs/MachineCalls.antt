-- The calls that a dispatch ends, on the run of the machine.
-- It serves `traces_grow` alone.
use Rattle.std.proofs.Common.{◌≡◌, ◌≢◌, ℕ, zero, suc, ◌+◌, ◌-◌, ◌<◌, ◌≤◌, true, Option, Some, None, List, refl, sym, ap, ◌∙◌, subst, ⊎_elim, arith, eq-eqb, ne_eqb}
use Rattle.std.specs.Prelude.{◌==◌, ℤ, [], ◌∷◌, length, slice_get, slice_index}
use Rattle.std.proofs.lemmas.Bool.{cases_lt, cond-true, cond-false}
use Rattle.mips_table.specs.Device.{Environment}
use Rattle.mips_table.specs.Machine.{State, in_system, run}
use Rattle.mips_table.specs.Turns.{is_on}
use Rattle.c0_meaning.specs.State.{C0State}
use Rattle.cvm_model.specs.Kernel.{Core, Changes, KernelMeaning, MeaningLaws, NotYet}
use Rattle.cvm_model.specs.Primitives.{KernelCall, VmGet, VmSet, VmSize, VmResize, VmWord, VmPut, VmCopy, ConPut, ConGet, ConLeft, primitive_number}
use Rattle.cvm_model.specs.Stands.{Site}
use Rattle.layer_contract.specs.declared.entry.Entry.TheVariants.{Dispatch, Primitive}
use Rattle.layer_contract.specs.declared.registers.TheConstants.{RETURN}
use Rattle.layer_contract.specs.Layer.{Inside, layer_entry}
use Rattle.layer_contract.specs.Calls.{under_way, ends_here, ended_before, busy_count, entered_before, EndsCall, KernelCalled, CallsFollow}
use Rattle.boot_turns.specs.declared.tracer.Entered.{Entered}
use Rattle.boot_turns.specs.Returns.{entry_note, noted_at, notes_on, noted_call}
use Rattle.boot_turns.proofs.MasksAndTimes.{is_on_of}
use Rattle.boot_turns.proofs.NoTurnBegins.{later}
use Rattle.boot_turns.proofs.EntryReached.{all_true, is_at}
use Rattle.boot_turns.proofs.CallUnderWay.{ended_grows, note_back, noted_back, noted_none, noted_there}
use Rattle.boot_turns.proofs.JournalsGoOn.{calls_most}

not_busy : (o : Option ℕ) → busy_count o ≡ 0 → o ≡ None
not_busy None e = refl
not_busy (Some v) e = absurd (let f : 1 ≡ 0 = e in omega (arith, f))

primitive_small : (call : KernelCall) → primitive_number call < 10
primitive_small (VmGet u r) = omega arith
primitive_small (VmSet u r v) = omega arith
primitive_small (VmSize u) = omega arith
primitive_small (VmResize u pages) = omega arith
primitive_small (VmWord u a) = omega arith
primitive_small (VmPut u a v) = omega arith
primitive_small (VmCopy u a v b n) = omega arith
primitive_small (ConPut w) = omega arith
primitive_small ConGet = omega arith
primitive_small ConLeft = omega arith

inside_on : (s : State) → Inside s → (is_on s ≡ true) × (in_system s.special ≡ true)
inside_on s i = (is_on_of s i.on, eq-eqb _ _ i.mode)

-- one call of a primitive, on the run
module _ (x : Environment) (y : Site) (longest : ℕ) (s : State) (m : ℕ) (ch : Changes) (ends : EndsCall x y longest s m ch) (door : s.cpu.pc ≡ layer_entry Dispatch) where
  -- the step at which it has returned
  abbrev pub return : ℕ
  return = ends.entry + ends.back.comes.steps

  abbrev at_entry : State
  at_entry = run x s ends.entry

  -- the note of its entry
  abbrev pub its_note : Entered
  its_note = entry_note (primitive_number ends.call) at_entry

  pub inside_return : (j : ℕ) → j ≤ return → Inside (run x s j)
  inside_return j le = ⊎_elim
      (λ (lt : j < ends.entry). ends.inside j (omega (arith, lt)))
      (λ (ge : ends.entry ≤ j). let d : ends.entry + (j - ends.entry) ≡ j = omega (arith, ge) in
      subst Inside (later x s ends.entry (j - ends.entry) ∙ ap (run x s) d)
      (⊎_elim
      (λ (lt : j - ends.entry < ends.back.comes.steps). ends.back.comes.way.inside (j - ends.entry) lt)
      (λ (far : ends.back.comes.steps ≤ j - ends.entry). let e : ends.back.comes.steps ≡ j - ends.entry = omega (arith, far, le, ge) in subst (λ i. Inside (run x at_entry i)) e ends.back.comes.there.inside)
      (cases_lt (j - ends.entry) ends.back.comes.steps)))
      (cases_lt j ends.entry)

  is_there : is_at (primitive_number ends.call) at_entry ≡ true
  is_there =
      let i = inside_on at_entry ends.called.at.inside in
      all_true (is_on at_entry) (in_system at_entry.special) (at_entry.cpu.pc == layer_entry (Primitive (primitive_number ends.call))) i.0 i.1 (eq-eqb _ _ ends.called.at.pc)

  entered_later : (t : ℕ) → ends.entry ≡ t → 0 < t
  entered_later zero e =
      let pc : s.cpu.pc ≡ layer_entry (Primitive (primitive_number ends.call)) = subst (λ i. (run x s i).cpu.pc ≡ layer_entry (Primitive (primitive_number ends.call))) e ends.called.at.pc in
      let few = primitive_small ends.call in
      absurd (omega (arith, door, pc, few))
  entered_later (suc t) e = omega arith

  noted_entry : (t : ℕ) → ends.entry ≡ t → noted_call x s t ≡ Some its_note
  noted_entry zero e = let l = entered_later 0 e in absurd (omega (arith, l))
  noted_entry (suc t) e =
      ap (notes_on (run x s (suc t))) (noted_none x s t (ends.idle t (sym e)))
      ∙ ap (λ i. noted_at 10 (run x s i)) (sym e)
      ∙ noted_there 10 (primitive_number ends.call) at_entry (primitive_small ends.call) is_there ends.called.at.pc

  noted_way : (i : ℕ) → i < ends.back.comes.steps → noted_call x s (ends.entry + i) ≡ Some its_note
  noted_way zero lt = let d : ends.entry + 0 ≡ ends.entry = omega arith in ap (noted_call x s) d ∙ noted_entry ends.entry refl
  noted_way (suc i) lt =
      let d : ends.entry + suc i ≡ suc (ends.entry + i) = omega arith in
      let apart : (run x s (suc (ends.entry + i))).cpu.pc ≢ its_note.back =
      subst (λ (r : State). r.cpu.pc ≢ its_note.back) (later x s ends.entry (suc i) ∙ ap (run x s) d) (ends.back.apart (suc i) lt) in
      ap (noted_call x s) d
      ∙ ap (notes_on (run x s (suc (ends.entry + i)))) (noted_way i (omega (arith, lt)))
      ∙ cond-false ((run x s (suc (ends.entry + i))).cpu.pc == its_note.back) None (Some its_note) (ne_eqb _ _ apart)

  steps_some : (n : ℕ) → ends.back.comes.steps ≡ n → 0 < n
  steps_some zero e =
      let pc : at_entry.cpu.pc ≡ slice_index at_entry.cpu.regs RETURN = subst (λ i. (run x at_entry i).cpu.pc ≡ slice_index at_entry.cpu.regs RETURN) e ends.back.comes.there.pc in
      let at : at_entry.cpu.pc ≡ layer_entry (Primitive (primitive_number ends.call)) = ends.called.at.pc in
      let few = primitive_small ends.call in
      let code = ends.called.back.from in
      absurd (omega (arith, pc, at, few, code))
  steps_some (suc n) e = omega arith

  -- the last step of the call
  pub noted_last : (t : ℕ) → suc t ≡ return → noted_call x s t ≡ Some its_note
  noted_last t e =
      let some = steps_some ends.back.comes.steps refl in
      let d : ends.entry + (ends.back.comes.steps - 1) ≡ t = omega (arith, some, e) in
      ap (noted_call x s) (sym d) ∙ noted_way (ends.back.comes.steps - 1) (omega (arith, some))

  pub pc_last : (run x s return).cpu.pc ≡ its_note.back
  pc_last = subst (λ (r : State). r.cpu.pc ≡ its_note.back) (later x s ends.entry ends.back.comes.steps) ends.back.comes.there.pc

  pub ended_last : (t : ℕ) → suc t ≡ return → ended_before x s t ≡ m
  ended_last t e =
      let under : under_way x s t ≡ Some its_note.back = sym (noted_back x s t) ∙ ap note_back (noted_last t e) in
      let pc : (run x s (suc t)).cpu.pc ≡ its_note.back = ap (λ i. (run x s i).cpu.pc) e ∙ pc_last in
      let one : ends_here (run x s (suc t)) (under_way x s t) ≡ 1 =
      ap (ends_here (run x s (suc t))) under ∙ cond-true ((run x s (suc t)).cpu.pc == its_note.back) 1 0 (eq-eqb _ _ pc) in
      let all : ended_before x s (suc t) ≡ suc m = ap (ended_before x s) e ∙ ends.ends in
      omega (arith, one, all)

-- a dispatch, from the step at which it is called
module _ (x : Environment) (y : Site) (longest : ℕ) (Typed : C0State → Type 0) (e : KernelMeaning) (follow : CallsFollow y Typed e) (laws : MeaningLaws e) (s : State) (c : Core) (cause edata user : ℤ)
    (called : KernelCalled x longest y Typed c cause edata user s) where
  abbrev pub calls : ℕ → List Changes
  calls n = (e.dispatch n c cause edata user).calls

  some_call : (xs : List Changes) (m : ℕ) → m < length xs → (ch : Changes) × (slice_get xs m ≡ Some ch)
  some_call [] m lt = absurd (omega (arith, lt))
  some_call (ch ∷ xs) zero lt = (ch, refl)
  some_call (ch ∷ xs) (suc m) lt = some_call xs m (omega (arith, lt))

  abbrev door : s.cpu.pc ≡ layer_entry Dispatch
  door = called.called.at.pc

  -- at the last step of a dispatch that is over, its calls have ended, and none is under way
  pub over_quiet : (n d : ℕ) → (e.dispatch n c cause edata user).end ≢ NotYet → ((j : ℕ) → j ≤ d → Inside (run x s j)) → (Inside (run x s (suc d)) → ⊥) →
      (under_way x s d ≡ None) × (ended_before x s d ≡ length (calls n))
  over_quiet n d over inside out =
      let w = follow.no_more x longest d s c cause edata user called inside in
      let most : entered_before x s d ≤ length (calls w.0) = w.1 in
      let all : length (calls w.0) ≤ length (calls n) = calls_most e laws c cause edata user n w.0 over in
      let least = have (length (calls n)) refl in
      let none : busy_count (under_way x s d) ≡ 0 = omega (arith, most, all, least) in
      (not_busy (under_way x s d) none, omega (arith, most, all, least))
    where
      have : (l : ℕ) → length (calls n) ≡ l → length (calls n) ≤ ended_before x s d
      have zero e = omega (arith, e)
      have (suc m) l =
          let call = some_call (calls n) m (omega (arith, l)) in
          let ends = follow.each x longest n m s c cause edata user call.0 called call.1 in
          let r : ℕ = ends.entry + ends.back.comes.steps in
          let soon : r ≤ d = ⊎_elim
          (λ (lt : d < r). absurd (out (inside_return x y longest s m call.0 ends door (suc d) (omega (arith, lt)))))
          (λ (ge : r ≤ d). ge)
          (cases_lt d r) in
          let grows = ended_grows x s r d soon in
          let is : ended_before x s r ≡ suc m = ends.ends in
          omega (arith, l, grows, is)

  -- a step that ends a call
  pub record CallAt (t : ℕ) : Type 0 where
    pub changes : Changes
    pub units : ℕ
    pub is : slice_get (calls units) (ended_before x s t) ≡ Some changes
    pub enough : suc (ended_before x s t) ≤ length (calls units)
    pub ends : EndsCall x y longest s (ended_before x s t) changes
    pub here : suc t ≡ ends.entry + ends.back.comes.steps

  pub call_at : (t : ℕ) → ((j : ℕ) → j ≤ suc t → Inside (run x s j)) → ends_here (run x s (suc t)) (under_way x s t) ≡ 1 → CallAt t
  call_at t inside one =
      let w = follow.no_more x longest (suc t) s c cause edata user called inside in
      let most : entered_before x s (suc t) ≤ length (calls w.0) = w.1 in
      let more : ended_before x s (suc t) ≡ suc (ended_before x s t) = omega (arith, one) in
      let enough : suc (ended_before x s t) ≤ length (calls w.0) = omega (arith, most, more) in
      let call = some_call (calls w.0) (ended_before x s t) enough in
      let ends = follow.each x longest w.0 (ended_before x s t) s c cause edata user call.0 called call.1 in
      record { changes = call.0; units = w.0; is = call.1; enough = enough; ends = ends; here = meets (ended_before x s t) call.0 ends refl more (ends.entry + ends.back.comes.steps) refl }
    where
      meets : (m : ℕ) (ch : Changes) (ends : EndsCall x y longest s m ch) → m ≡ ended_before x s t → ended_before x s (suc t) ≡ suc (ended_before x s t) → (r : ℕ) → ends.entry + ends.back.comes.steps ≡ r → suc t ≡ ends.entry + ends.back.comes.steps
      meets m ch ends same more zero e = let i = ends.ends in let z : ended_before x s 0 ≡ suc m = subst (λ i. ended_before x s i ≡ suc m) e i in absurd (omega (arith, z))
      meets m ch ends same more (suc r) e =
          let last = ended_last x y longest s m ch ends door r (sym e) in
          let at : ended_before x s (suc r) ≡ suc m = subst (λ i. ended_before x s i ≡ suc m) e ends.ends in
          ⊎_elim
          (λ (lt : t < r). let g = ended_grows x s (suc t) r (omega (arith, lt)) in absurd (omega (arith, g, last, more, same)))
          (λ (ge : r ≤ t). ⊎_elim
          (λ (lt : r < t). let g = ended_grows x s (suc r) t (omega (arith, lt)) in absurd (omega (arith, g, at, same)))
          (λ (le : t ≤ r). let d : t ≡ r = omega (arith, ge, le) in ap suc d ∙ sym e)
          (cases_lt r t))
          (cases_lt t r)
