-- What is counted comes: a step more at the front, and two traps that come of one machine come at once.
use Rattle.std.specs.Prelude.{option_map}
use Rattle.std.proofs.Common.{◌≡◌, ℕ, zero, suc, ◌<◌, ◌≤◌, List, [], ◌∷◌, Option, Some, None, refl, sym, ap, subst, arith, ⊎_elim}
use Rattle.std.proofs.lemmas.Bool.{cases_lt}
use Rattle.mips_table.specs.declared.cause.Cause.{Cause}
use Rattle.mips_table.specs.Flat.{Flat, VStep, Goes, Trap, vstep}
use Rattle.cvm_model.specs.Invariant.{machine_after}
use Rattle.kernel_theorems.specs.UserRuns.{after, IsGoes, TrapsAfter, told}
use Rattle.program_systems.specs.Counts.{TrapsThrough, step_more, counted, steps_below, CountsTell}
use Rattle.program_systems.proofs.ProgramsCome.{front, at_once, one_more}

pub none_told : (steps : List ℕ) → ◌≡◌ {A = Option (List ℕ)} None (Some steps) → ⊥
none_told steps e = cc

same_told : (a b : List ℕ) → ◌≡◌ {A = Option (List ℕ)} (Some a) (Some b) → a ≡ b
same_told a b e = cc

-- COUNTED STEPS COME: a step more before the first trap
gone : (f g : Flat) (answers steps : List ℕ) → vstep f ≡ Goes g → TrapsThrough g answers steps → TrapsThrough f answers (step_more steps)
gone f g answers [] e h = absurd h
gone f g [] (n ∷ steps) e h = (h.0, (h.1.0, one_more f g n h.1.0 e h.1.1))
gone f g (x ∷ answers) (n ∷ steps) e h = ((h.0.0, one_more f g n h.0.0 e h.0.1), subst (λ m. TrapsThrough (told m x) answers steps) (sym (front (suc n) f g e)) h.1)

-- a trap at once, and those behind its answer
trapped : (f g : Flat) (cause : Cause) (edata x : ℕ) (answers steps : List ℕ) → vstep f ≡ Trap g cause edata → TrapsThrough (told g x) answers steps → TrapsThrough f (x ∷ answers) (0 ∷ steps)
trapped f g cause edata x answers steps e h = ((cause, at_once f g cause edata e), subst (λ m. TrapsThrough (told m x) answers steps) (sym (ap machine_after e)) h)

pub mapped : (make : List ℕ → List ℕ) (o : Option (List ℕ)) (steps : List ℕ) → option_map make o ≡ Some steps → (found : List ℕ) × (o ≡ Some found) × (make found ≡ steps)
mapped make None steps e = absurd (none_told steps e)
mapped make (Some found) steps e = (found, refl, same_told (make found) steps e)

by_step : (f : Flat) (k : ℕ) (answers steps : List ℕ) (v : VStep) → vstep f ≡ v → counted v answers (steps_below k) ≡ Some steps
    → ((g : Flat) (given made : List ℕ) → steps_below k g given ≡ Some made → TrapsThrough g given made) → TrapsThrough f answers steps
by_step f k answers steps (Goes g) e told_so rest =
    let (found, same, made) = mapped step_more (steps_below k g answers) steps told_so in
    subst (λ ns. TrapsThrough f answers ns) made (gone f g answers found e (rest g answers found same))
by_step f k [] steps (Trap g cause edata) e told_so rest = subst (λ ns. TrapsThrough f [] ns) (same_told (0 ∷ []) steps told_so) (refl, (cause, at_once f g cause edata e))
by_step f k (x ∷ answers) steps (Trap g cause edata) e told_so rest =
    let (found, same, made) = mapped (λ ns. 0 ∷ ns) (steps_below k (told g x) answers) steps told_so in
    subst (λ ns. TrapsThrough f (x ∷ answers) ns) made (trapped f g cause edata x answers found e (rest (told g x) answers found same))

traps : (k : ℕ) (f : Flat) (answers steps : List ℕ) → steps_below k f answers ≡ Some steps → TrapsThrough f answers steps
traps zero f answers steps told_so = absurd (none_told steps told_so)
traps (suc k) f answers steps told_so = by_step f k answers steps (vstep f) refl told_so (λ g given made same. traps k g given made same)

-- AND NO OTHERS
no_trap : (v : VStep) (f : Flat) (cause : Cause) (edata : ℕ) → IsGoes v → v ≡ Trap f cause edata → ⊥
no_trap v f cause edata goes e = subst IsGoes e goes

not_before : (f : Flat) (m n : ℕ) (by cause : Cause) → TrapsAfter f m by → TrapsAfter f n cause → m < n → ⊥
not_before f m n by cause r s lt = no_trap (vstep (after m f)) (after (suc m) f) by r.edata (s.goes m lt) r.traps

at_one_time : (f : Flat) (n m : ℕ) (by cause : Cause) → TrapsAfter f n by → TrapsAfter f m cause → m ≡ n
at_one_time f n m by cause r s =
    ⊎_elim (λ (lt : m < n). absurd (not_before f m n cause by s r lt))
    (λ (ge : n ≤ m). ⊎_elim (λ (lt : n < m). absurd (not_before f n m by cause r s lt)) (λ (le : m ≤ n). omega (arith, ge, le)) (cases_lt n m))
    (cases_lt m n)

pub counts_tell : CountsTell
counts_tell = record { traps = λ f answers steps is. traps is.below f answers steps is.counts; exactly = at_one_time }
