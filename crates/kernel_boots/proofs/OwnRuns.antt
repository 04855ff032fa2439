-- A journal without changes is that of the user's own steps, and its replay is the machine behind them.
use Rattle.std.proofs.Common.{◌≡◌, ℕ, zero, suc, ◌+◌, ◌&&◌, List, [], ◌∷◌, ◌++◌, Bool, true, false, refl, sym, ap, ap₂, ◌∙◌}
use Rattle.std.specs.Prelude.{◌==◌, if◌then◌else◌, Option, Some, None, option_and_then, bit_or}
use Rattle.std.specs.List.{list_all}
use Rattle.std.proofs.lemmas.Bool.{and_parts, and_from, eqb-true}
use Rattle.std.proofs.lemmas.List.{append-nil}
use Rattle.std.proofs.lemmas.List.Folds.{list_all-append}
use Rattle.mips_table.specs.Machine.{cause_number}
use Rattle.mips_table.specs.Flat.{Flat, VStep, Goes, Trap, vstep}
use Rattle.cvm_model.specs.Kernel.{Core, JournalEntry, Stepped, Trapped, Set, Size, Put}
use Rattle.cvm_model.specs.Primitives.{user_of}
use Rattle.cvm_model.specs.Cvm.{System, Cvm, Status, Running, Halted, Faulted, Begin, Steps, Traps, Interrupts, begin, first_core, cvm}
use Rattle.cvm_model.specs.Invariant.{machine_after}
use Rattle.cvm_model.specs.Journal.{begin_entries, running_entries, turn_entries, journal, replay_step, replay_trap, replay_entry, replay, Isolated}
use Rattle.kernel_theorems.specs.UserRuns.{after}
use Rattle.called_primitives.specs.Kernels.{LeavesAlone}
use Rattle.kernel_boots.specs.OwnRuns.{own_steps, step_entry, own_journal, RunsAreOwn}

-- AN ENTRY OF ITS OWN is a step or a trap
abbrev is_own : JournalEntry → Bool
is_own Stepped = true
is_own (Trapped cause edata) = true
is_own other = false

-- steps from the front
front : (n : ℕ) (f : Flat) → after n (machine_after (vstep f)) ≡ after (suc n) f
front zero f = refl
front (suc n) f = ap (λ g. machine_after (vstep g)) (front n f)

-- what a journal of its own comes to
record OwnReplay (f : Flat) (j : List JournalEntry) (g : Flat) : Type 0 where
  machine : g ≡ after (own_steps j) f
  entries : j ≡ own_journal (own_steps j) f

none_some : {A : Type 0} (a : A) → None ≡ Some a → ⊥
none_some a e = absurd (cc)

some_same : {A : Type 0} (a b : A) → Some a ≡ Some b → a ≡ b
some_same a b e = cc

-- an entry of its own is that of its next step
record OwnEntry (f : Flat) (e : JournalEntry) (g : Flat) : Type 0 where
  machine : g ≡ machine_after (vstep f)
  entry : e ≡ step_entry (vstep f)

own_step : (f g : Flat) (v : VStep) → vstep f ≡ v → replay_step v ≡ Some g → OwnEntry f Stepped g
own_step f g (Goes h) e r = record { machine = sym (ap machine_after e ∙ some_same h g r); entry = sym (ap step_entry e) }
own_step f g (Trap h cause edata) e r = absurd (none_some g r)

own_trap : (f g : Flat) (c d : ℕ) (v : VStep) → vstep f ≡ v → replay_trap v c d ≡ Some g → OwnEntry f (Trapped c d) g
own_trap f g c d (Goes h) e r = absurd (none_some g r)
own_trap f g c d (Trap h cause edata) e r = by (cause_number cause == c && edata == d) refl r
  where
    by : (b : Bool) → (cause_number cause == c && edata == d) ≡ b → (if b then Some h else None) ≡ Some g → OwnEntry f (Trapped c d) g
    by true t r =
        let parts = and_parts (cause_number cause == c) (edata == d) t in
        record {
          machine = sym (ap machine_after e ∙ some_same h g r);
          entry = sym (ap step_entry e ∙ ap₂ Trapped (eqb-true (cause_number cause) c parts.0) (eqb-true edata d parts.1));
        }
    by false t r = absurd (none_some g r)

own_entry : (e : JournalEntry) (f g : Flat) → is_own e ≡ true → replay_entry e f ≡ Some g → OwnEntry f e g
own_entry Stepped f g own r = own_step f g (vstep f) refl r
own_entry (Trapped c d) f g own r = own_trap f g c d (vstep f) refl r
own_entry (Set register value) f g own r = absurd (cc)
own_entry (Size pages) f g own r = absurd (cc)
own_entry (Put address value) f g own r = absurd (cc)

counted : (e : JournalEntry) (rest : List JournalEntry) → is_own e ≡ true → own_steps (e ∷ rest) ≡ suc (own_steps rest)
counted Stepped rest own = refl
counted (Trapped c d) rest own = refl
counted (Set register value) rest own = absurd (cc)
counted (Size pages) rest own = absurd (cc)
counted (Put address value) rest own = absurd (cc)

own_replay : (j : List JournalEntry) (f g : Flat) → list_all is_own j ≡ true → replay f j ≡ Some g → OwnReplay f j g
own_replay [] f g own r = record { machine = sym (some_same f g r); entries = refl }
own_replay (e ∷ rest) f g own r = by (replay_entry e f) refl r (own_replay rest)
  where
    parts : (is_own e ≡ true) × (list_all is_own rest ≡ true)
    parts = and_parts (is_own e) (list_all is_own rest) own

    by : (o : Option Flat) → replay_entry e f ≡ o → option_and_then (λ h. replay h rest) o ≡ Some g → ((h g : Flat) → list_all is_own rest ≡ true → replay h rest ≡ Some g → OwnReplay h rest g) →
        OwnReplay f (e ∷ rest) g
    by None t r behind = absurd (none_some g r)
    by (Some h) t r behind =
        let first : OwnEntry f e h = own_entry e f h parts.0 t in
        let later : OwnReplay h rest g = behind h g parts.1 r in
        let count = counted e rest parts.0 in
        record {
          machine = later.machine ∙ ap (after (own_steps rest)) first.machine ∙ front (own_steps rest) f ∙ ap (λ n. after n f) (sym count);
          entries = ap₂ ◌∷◌ first.entry (later.entries ∙ ap (own_journal (own_steps rest)) first.machine) ∙ ap (λ n. own_journal n f) (sym count);
        }

-- THE JOURNAL of a user that is left alone holds entries of its own alone
module _ (y : System) (u : ℕ) (alone : LeavesAlone y.boot.meaning u) (lines : ℕ → ℕ) (n : ℕ) where
  either_own : (b : Bool) (e : JournalEntry) → is_own e ≡ true → list_all is_own (if b then e ∷ [] else []) ≡ true
  either_own true e own = and_from (is_own e) true own refl
  either_own false e own = refl

  begins : (c : Core) (b : Begin) → list_all is_own (begin_entries y n (λ calls. calls) u c b) ≡ true
  begins c (Steps after) = either_own (c.current == u) Stepped refl
  begins c (Traps cause edata at) =
      let none = alone n at _ _ _ in
      ap (λ es. list_all is_own ((if c.current == u then Trapped cause edata ∷ [] else []) ++ es)) none
      ∙ ap (list_all is_own) (append-nil (if c.current == u then Trapped cause edata ∷ [] else [])) ∙ either_own (c.current == u) (Trapped cause edata) refl
  begins c (Interrupts cause edata at pending) = ap (list_all is_own) (alone n at _ _ _)

  running : (k l : ℕ) (c : Cvm) (s : Status) → list_all is_own (running_entries y n (λ calls. calls) u k l c s) ≡ true
  running k l c Running = begins c.core (begin k c.core (bit_or c.pending l))
  running k l c Halted = refl
  running k l c (Faulted f) = refl

  turn : (k l : ℕ) (o : Option Cvm) → list_all is_own (turn_entries y n (λ calls. calls) u k l o) ≡ true
  turn k l None = refl
  turn k l (Some c) = running k l c c.status

  journals : (k : ℕ) → list_all is_own (journal y lines n u k) ≡ true
  journals zero = refl
  journals (suc k) =
      list_all-append is_own (journal y lines n u k) (turn_entries y n (λ calls. calls) u k (lines k) (cvm y lines n k))
      ∙ and_from (list_all is_own (journal y lines n u k)) _ (journals k) (turn k (lines k) (cvm y lines n k))

pub runs_are_own : Isolated → RunsAreOwn
runs_are_own isolated y lines n k u c kernel alone some few is =
    let o : OwnReplay (user_of (first_core y).users u) (journal y lines n u k) (user_of c.core.users u) =
    own_replay (journal y lines n u k) (user_of (first_core y).users u) (user_of c.core.users u) (journals y u alone lines n k) (isolated y lines n k u c kernel some few is) in
    record {
      steps = own_steps (journal y lines n u k);
      steps_are = refl;
      machine = o.machine;
      entries = o.entries;
    }
