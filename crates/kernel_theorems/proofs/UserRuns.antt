-- Steps of users whose programs are known: what the current user's next step is, and what it leaves. This file may be cited from other crates: by whoever proves
-- a property of a whole system (cvm_model/specs/Systems).
use Rattle.std.proofs.Common.{◌≡◌, ℕ, zero, suc, ◌≤◌, ◌<◌, List, Bool, true, false, refl, sym, ap, ap₂, ◌∙◌, subst, ⊎_elim, arith}
use Rattle.std.proofs.lemmas.Bool.{cases_lt}
use Rattle.mips_table.specs.declared.cause.Cause.{Cause}
use Rattle.mips_table.specs.Flat.{Flat, VStep, Goes, Trap, vstep}
use Rattle.cvm_model.specs.Kernel.{Core}
use Rattle.mips_table.specs.Machine.{cause_number, Console}
use Rattle.c0_meaning.specs.State.{C0State}
use Rattle.cvm_model.specs.Primitives.{user_of, with_user}
use Rattle.cvm_model.specs.Cvm.{System}
use Rattle.cvm_model.specs.Invariant.{Dispatch, IsTrapOf, machine_after, with_machine}
use Rattle.cvm_model.specs.Systems.{SystemProperty, KeepsAll}
use Rattle.kernel_theorems.specs.UserRuns.{after, IsGoes, TrapsAfter}

not_trap : (v : VStep) (f : Flat) (cause : Cause) (edata : ℕ) → IsGoes v → v ≡ Trap f cause edata → ⊥
not_trap v f cause edata goes e = subst IsGoes e goes

not_goes : (v : VStep) (f g : Flat) (cause : Cause) (edata : ℕ) → v ≡ Goes f → v ≡ Trap g cause edata → ⊥
not_goes v f g cause edata e h = let z : Goes f ≡ Trap g cause edata = sym e ∙ h in cc

-- ONE USER, up to the step that traps
module _ (f : Flat) (steps : ℕ) (by : Cause) (c : TrapsAfter f steps by) (t : ℕ) (few : t ≤ steps) where
  -- a step that isn't trapped is before that one
  pub goes_before : (g : Flat) → vstep (after t f) ≡ Goes g → t < steps
  goes_before g e = ⊎_elim
      (λ (lt : t < steps). lt)
      (λ (ge : steps ≤ t).
      let same : t ≡ steps = omega (arith, few, ge) in
      absurd (not_goes (vstep (after t f)) g (after (suc steps) f) by c.edata e (subst (λ i. vstep (after i f) ≡ Trap (after (suc steps) f) by c.edata) (sym same) c.traps)))
      (cases_lt t steps)

  -- and leads to the next machine
  pub goes_next : (g : Flat) → vstep (after t f) ≡ Goes g → g ≡ after (suc t) f
  goes_next g e = sym (ap machine_after e)

  -- one that is trapped is that one
  pub traps_last : (g : Flat) (cause : Cause) (edata : ℕ) → vstep (after t f) ≡ Trap g cause edata → t ≡ steps
  traps_last g cause edata e = ⊎_elim (λ (lt : t < steps). absurd (not_trap (vstep (after t f)) g cause edata (c.goes t lt) e)) (λ (ge : steps ≤ t). omega (arith, few, ge)) (cases_lt t steps)

  same_trap : (g : Flat) (cause : Cause) (edata : ℕ) → vstep (after t f) ≡ Trap g cause edata → Trap g cause edata ≡ Trap (after (suc steps) f) by c.edata
  same_trap g cause edata e = sym e ∙ subst (λ i. vstep (after i f) ≡ Trap (after (suc steps) f) by c.edata) (sym (traps_last g cause edata e)) c.traps

  -- of its cause, and leaves its machine
  pub is_cause : (g : Flat) (cause : Cause) (edata : ℕ) → vstep (after t f) ≡ Trap g cause edata → cause ≡ by
  is_cause g cause edata e = of (same_trap g cause edata e)
    where
      of : Trap g cause edata ≡ Trap (after (suc steps) f) by c.edata → cause ≡ by
      of z = cc

  pub leaves_last : (g : Flat) (cause : Cause) (edata : ℕ) → vstep (after t f) ≡ Trap g cause edata → g ≡ after (suc steps) f
  leaves_last g cause edata e = of (same_trap g cause edata e)
    where
      of : Trap g cause edata ≡ Trap (after (suc steps) f) by c.edata → g ≡ after (suc steps) f
      of z = cc

-- THE CURRENT USER'S next step, where the machines and the user are known, and another machine in its place
pub its_step : (c : Core) (us : List Flat) (u : ℕ) (x : VStep) → c.users ≡ us → c.current ≡ u → vstep (user_of c.users c.current) ≡ x → vstep (user_of us u) ≡ x
its_step c us u x users current e = sym (ap₂ (λ us u. vstep (user_of us u)) users current) ∙ e

pub put_in : (c : Core) (us : List Flat) (u : ℕ) (f g : Flat) → c.users ≡ us → c.current ≡ u → f ≡ g → (with_machine c f).users ≡ with_user us u g
put_in c us u f g users current same = ap₂ (λ us u. with_user us u f) users current ∙ ap (with_user us u) same

-- A CORE by its parts: dispatches that find known machines are best stated at one that is written out, since all tests on users compute then
abbrev pub core_of_parts : C0State → List Flat → Console → ℕ → Core
core_of_parts s us o u = record { c0 = s; users = us; console = o; current = u }

core_is : (before : Core) (h g : Flat) (us : List Flat) (s : C0State) (o : Console) (u : ℕ) → before.users ≡ us → before.current ≡ u → before.c0 ≡ s → before.console ≡ o → h ≡ g
    → with_machine before h ≡ core_of_parts s (with_user us u g) o u
core_is before h g us s o u users current word console same =
    ap (λ (s : C0State). core_of_parts s (with_user before.users before.current h) before.console before.current) word
    ∙ ap (λ (o : Console). core_of_parts s (with_user before.users before.current h) o before.current) console
    ∙ ap₂ (λ (us : List Flat) (u : ℕ). core_of_parts s (with_user us u h) o u) users current
    ∙ ap (λ (g : Flat). core_of_parts s (with_user us u g) o u) same

same_data : (g h : Flat) (cause by : Cause) (edata word : ℕ) → Trap g cause edata ≡ Trap h by word → edata ≡ word
same_data g h cause by edata word e = cc

-- THE CURRENT USER'S STEP, where its program is known (`g` is its machine behind the last trap, and t steps were made since): it is before the one that traps,
-- and leads to the next machine
pub record KnownStep (c : Core) (us : List Flat) (u : ℕ) (g : Flat) (steps t : ℕ) (f : Flat) : Type 0 where
  pub before : t < steps
  pub users : (with_machine c f).users ≡ with_user us u (after (suc t) g)

pub known_step : (c : Core) (us : List Flat) (u : ℕ) (g : Flat) (steps : ℕ) (by : Cause) (h : TrapsAfter g steps by) (t : ℕ) → t ≤ steps → c.users ≡ us → c.current ≡ u → user_of us u ≡ after t g → (f : Flat)
    → vstep (user_of c.users c.current) ≡ Goes f → KnownStep c us u g steps t f
known_step c us u g steps by h t few users current is f e =
    let goes : vstep (after t g) ≡ Goes f = sym (ap vstep is) ∙ its_step c us u (Goes f) users current e in
    record { before = goes_before g steps by h t few f goes; users = put_in c us u f (after (suc t) g) users current (goes_next g steps by h t few f goes) }

-- and its trap: it is that one, with its data, and leaves a state that is known
pub record KnownTrap (at there : Core) (steps t : ℕ) (by : Cause) (word : ℕ) (cause : Cause) (edata : ℕ) : Type 0 where
  pub last : t ≡ steps
  pub cause_is : cause ≡ by
  pub edata_is : edata ≡ word
  pub core_is : at ≡ there

pub known_trap : (before at : Core) (us : List Flat) (u : ℕ) (g : Flat) (steps : ℕ) (by : Cause) (h : TrapsAfter g steps by) (word : ℕ) (t : ℕ) (cause : Cause) (edata : ℕ) (s : C0State) (o : Console)
    → h.edata ≡ word → t ≤ steps → before.users ≡ us → before.current ≡ u → user_of us u ≡ after t g → before.c0 ≡ s → before.console ≡ o → IsTrapOf before cause edata at
    → KnownTrap at (core_of_parts s (with_user us u (after (suc steps) g)) o u) steps t by word cause edata
known_trap before at us u g steps by h word t cause edata s o same few users current is data_is console came =
    let e : vstep (after t g) ≡ Trap came.after cause edata = sym (ap vstep is) ∙ its_step before us u (Trap came.after cause edata) users current came.stepped in
    let last : t ≡ steps = traps_last g steps by h t few came.after cause edata e in
    record {
      last = last;
      cause_is = is_cause g steps by h t few came.after cause edata e;
      edata_is = same_data came.after (after (suc steps) g) cause by edata h.edata
          (sym e ∙ subst (λ j. vstep (after j g) ≡ Trap (after (suc steps) g) by h.edata) (sym last) h.traps) ∙ same;
      core_is = came.left ∙ core_is before came.after (after (suc steps) g) us s o u users current data_is console (leaves_last g steps by h t few came.after cause edata e);
    }

-- the dispatch of such a trap is one at the state that is known
pub arrives : {y : System} {n : ℕ} {I : SystemProperty} {k : ℕ} {past : List Dispatch} {at there : Core} {steps t word edata : ℕ} {by cause : Cause} → KnownTrap at there steps t by word cause edata
    → KeepsAll y n I k (cause_number by) word past there → KeepsAll y n I k (cause_number cause) edata past at
arrives {y} {n} {I} {k} {past} {at} {there} {steps} {t} {word} {edata} {by} {cause} h is =
    subst (λ (z : Cause). KeepsAll y n I k (cause_number z) edata past at) (sym h.cause_is)
    (subst (λ (e : ℕ). KeepsAll y n I k (cause_number by) e past at) (sym h.edata_is)
    (subst (λ (z : Core). KeepsAll y n I k (cause_number by) word past z) (sym h.core_is) is))

-- WHETHER so many steps are untrapped, one after another: it computes, for words and registers that are known
abbrev pub goes_from : VStep → (Flat → Bool) → Bool
goes_from (Goes f) rest = rest f
goes_from (Trap f cause edata) rest = false

abbrev pub goes_all : ℕ → Flat → Bool
goes_all zero f = true
goes_all (suc n) f = goes_from (vstep f) (goes_all n)

-- the steps behind the first one
front : (t : ℕ) (f g : Flat) → vstep f ≡ Goes g → after (suc t) f ≡ after t g
front zero f g e = ap machine_after e
front (suc t) f g e = ap (λ h. machine_after (vstep h)) (front t f g e)

pub all_go : (n : ℕ) (f : Flat) → goes_all n f ≡ true → (t : ℕ) → t < n → IsGoes (vstep (after t f))
all_go zero f e t lt = absurd (omega (arith, lt))
all_go (suc n) f e t lt = by (vstep f) refl e t lt (all_go n)
  where
    by : (v : VStep) → vstep f ≡ v → goes_from v (goes_all n) ≡ true → (t : ℕ) → t < suc n → ((f : Flat) → goes_all n f ≡ true → (t : ℕ) → t < n → IsGoes (vstep (after t f))) → IsGoes (vstep (after t f))
    by (Goes g) is h zero lt rest = subst IsGoes (sym is) tt
    by (Goes g) is h (suc t) lt rest = subst (λ x. IsGoes (vstep x)) (sym (front t f g is)) (rest g h t (omega (arith, lt)))
    by (Trap g cause edata) is h t lt rest = absurd (cc)
