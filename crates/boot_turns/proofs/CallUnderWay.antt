-- The primitive that is under way, how many have ended, and the note of it, step by step.
-- It serves `traces_grow` alone.
use Rattle.std.proofs.Common.{◌≡◌, ℕ, zero, suc, ◌+◌, ◌<◌, ◌≤◌, Bool, true, false, cond, Option, Some, None, refl, sym, ap, ap₂, ◌∙◌, subst, ⊎_elim, arith, ne_eqb}
use Rattle.std.specs.Prelude.{◌==◌}
use Rattle.std.proofs.lemmas.Bool.{cases_lt, cond-true, cond-false}
use Rattle.mips_table.specs.Device.{Environment}
use Rattle.mips_table.specs.Machine.{State, in_system, step, run}
use Rattle.mips_table.specs.Turns.{is_on}
use Rattle.layer_contract.specs.declared.entry.Entry.TheVariants.{Primitive}
use Rattle.layer_contract.specs.Layer.{layer_entry}
use Rattle.layer_contract.specs.Calls.{entered, return_address, under_way, ends_here, ended_before}
use Rattle.boot_turns.specs.declared.tracer.Entered.{Entered}
use Rattle.boot_turns.specs.Returns.{entry_note, noted_at, notes_on, noted_call}
use Rattle.boot_turns.proofs.EntryReached.{is_at, third_false}
use Rattle.boot_turns.proofs.NoTurnBegins.{later}

module _ (x : Environment) (s : State) where
  pub next_none : (t : ℕ) → under_way x s t ≡ None → entered 10 (run x s (suc t)) ≡ None → under_way x s (suc t) ≡ None
  next_none t q e = ap (return_address (run x s (suc t))) q ∙ e

  next_same : (t : ℕ) → under_way x s t ≡ None → ended_before x s (suc t) ≡ ended_before x s t
  next_same t q = ap (λ o. ended_before x s t + ends_here (run x s (suc t)) o) q ∙ omega arith

  -- where no entry is met, none is under way and none ends
  pub stays_quiet : (t u : ℕ) → t ≤ u → ((j : ℕ) → t < j → j ≤ u → entered 10 (run x s j) ≡ None) → under_way x s t ≡ None → (under_way x s u ≡ None) × (ended_before x s u ≡ ended_before x s t)
  stays_quiet t zero le h q = let e : t ≡ 0 = omega arith in (refl, ap (ended_before x s) (sym e))
  stays_quiet t (suc u) le h q = ⊎_elim
      (λ (lt : t < suc u). let r = stays_quiet t u (omega arith) (λ j a b. h j a (omega arith)) q in (next_none u r.0 (h (suc u) lt (omega arith)), next_same u r.0 ∙ r.1))
      (λ (ge : suc u ≤ t). let e : t ≡ suc u = omega arith in (subst (λ i. under_way x s i ≡ None) e q, ap (ended_before x s) (sym e)))
      (cases_lt t (suc u))

  plus_zero : (u : ℕ) → u + 0 ≡ u
  plus_zero u = omega arith

  plus_suc : (u d : ℕ) → u + suc d ≡ suc (u + d)
  plus_suc u d = omega arith

  -- from a step on at which none is under way, all goes on as from that state
  pub under_way_later : (u : ℕ) → under_way x s u ≡ None → (d : ℕ) → under_way x s (u + d) ≡ under_way x (run x s u) d
  under_way_later u q zero = ap (under_way x s) (plus_zero u) ∙ q
  under_way_later u q (suc d) =
      ap (under_way x s) (plus_suc u d)
      ∙ ap₂ return_address (ap (step x) (sym (later x s u d))) (under_way_later u q d)

  pub ended_later : (u : ℕ) → under_way x s u ≡ None → (d : ℕ) → ended_before x s (u + d) ≡ ended_before x s u + ended_before x (run x s u) d
  ended_later u q zero = ap (ended_before x s) (plus_zero u) ∙ omega arith
  ended_later u q (suc d) =
      ap (ended_before x s) (plus_suc u d)
      ∙ ap₂ (λ (a b : ℕ). a + b) (ended_later u q d) (ap₂ ends_here (ap (step x) (sym (later x s u d))) (under_way_later u q d))
      ∙ plus_assoc (ended_before x s u) (ended_before x (run x s u) d) (ends_here (run x (run x s u) (suc d)) (under_way x (run x s u) d))
    where
      plus_assoc : (a b c : ℕ) → (a + b) + c ≡ a + (b + c)
      plus_assoc a b c = omega arith

  pub ended_grows : (t u : ℕ) → t ≤ u → ended_before x s t ≤ ended_before x s u
  ended_grows t zero le = let e : t ≡ 0 = omega arith in rw e (omega arith)
  ended_grows t (suc u) le = ⊎_elim
      (λ (lt : t < suc u). let a = ended_grows t u (omega arith) in omega (arith, a))
      (λ (ge : suc u ≤ t). let e : t ≡ suc u = omega arith in rw e (omega arith))
      (cases_lt t (suc u))

  noted_next : (u d : ℕ) → noted_call x s u ≡ None → noted_call x s (u + d) ≡ noted_call x (run x s u) d
  noted_next u zero q = ap (noted_call x s) (plus_zero u) ∙ q
  noted_next u (suc d) q =
      ap (noted_call x s) (plus_suc u d)
      ∙ ap₂ notes_on (ap (step x) (sym (later x s u d))) (noted_next u d q)

-- the return address of the note
abbrev pub note_back : Option Entered → Option ℕ
note_back None = None
note_back (Some e) = Some e.back

back_if : (b : Bool) (e : Entered) (o : Option Entered) (p : Option ℕ) → note_back o ≡ p → note_back (cond b (Some e) o) ≡ cond b (Some e.back) p
back_if true e o p h = refl
back_if false e o p h = h

noted_at_back : (n : ℕ) (s : State) → note_back (noted_at n s) ≡ entered n s
noted_at_back zero s = refl
noted_at_back (suc k) s = back_if (is_at k s) (entry_note k s) (noted_at k s) (entered k s) (noted_at_back k s)

back_unless : (b : Bool) (e : Entered) → note_back (cond b None (Some e)) ≡ cond b None (Some e.back)
back_unless true e = refl
back_unless false e = refl

notes_back : (s : State) (o : Option Entered) → note_back (notes_on s o) ≡ return_address s (note_back o)
notes_back s None = noted_at_back 10 s
notes_back s (Some e) = back_unless (s.cpu.pc == e.back) e

pub noted_back : (x : Environment) (s : State) (t : ℕ) → note_back (noted_call x s t) ≡ under_way x s t
noted_back x s zero = refl
noted_back x s (suc t) = notes_back (run x s (suc t)) (noted_call x s t) ∙ ap (return_address (run x s (suc t))) (noted_back x s t)

back_none : (o : Option Entered) → note_back o ≡ None → o ≡ None
back_none None h = refl
back_none (Some e) h = absurd (let f : ◌≡◌ {A = Option ℕ} (Some e.back) None = h in cc)

pub noted_none : (x : Environment) (s : State) (t : ℕ) → under_way x s t ≡ None → noted_call x s t ≡ None
noted_none x s t q = back_none (noted_call x s t) (noted_back x s t ∙ q)

pub noted_later : (x : Environment) (s : State) (u d : ℕ) → under_way x s u ≡ None → noted_call x s (u + d) ≡ noted_call x (run x s u) d
noted_later x s u d q = noted_next x s u d (noted_none x s u q)

-- at the entry of primitive k that one is noted
pub noted_there : (n k : ℕ) (s : State) → k < n → is_at k s ≡ true → s.cpu.pc ≡ layer_entry (Primitive k) → noted_at n s ≡ Some (entry_note k s)
noted_there zero k s lt h pc = absurd (omega (arith, lt))
noted_there (suc n) k s lt h pc = ⊎_elim
    (λ (l : k < n). cond-false (is_at n s) (Some (entry_note n s)) (noted_at n s) (third_false (is_on s) (in_system s.special) (s.cpu.pc == layer_entry (Primitive n)) (ne_eqb s.cpu.pc (layer_entry (Primitive n)) (λ e. other pc e l))) ∙ noted_there n k s l h pc)
    (λ (g : n ≤ k). let e : k ≡ n = omega (arith, lt, g) in
    cond-true (is_at n s) (Some (entry_note n s)) (noted_at n s) (subst (λ i. is_at i s ≡ true) e h) ∙ ap (λ i. Some (entry_note i s)) (sym e))
    (cases_lt k n)
  where
    other : {a : ℕ} → a ≡ layer_entry (Primitive k) → a ≡ layer_entry (Primitive n) → k < n → ⊥
    other e f l = omega (arith, e, f, l)
