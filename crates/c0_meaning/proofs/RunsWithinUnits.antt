-- More units change no run that is over, a run stays within its units, and it never wants for steps.
use Rattle.std.proofs.Common.{◌≡◌, ℕ, zero, suc, ◌≤◌, List, [], ◌∷◌, Bool, true, false, nat_lt, refl, sym, ap, ◌∙◌, subst, arith}
use Rattle.std.specs.Prelude.{if◌then◌else◌}
use Rattle.std.proofs.lemmas.Bool.{ltb-false, le-ltb}
use Rattle.c0_meaning.specs.World.{Setting, Cost, units, total, plus, Configuration}
use Rattle.c0_meaning.specs.Running.{Work, Step, Go, Stop, work_step}
use Rattle.c0_meaning.specs.Execution.{Outcome, NotYet, then_run, execute, run_within}
use Rattle.c0_meaning.specs.RunLaws.{MoreUnits, IsOver}

-- what is beyond the limit, or goes on
abbrev within : {A : Type 0} → Bool → A → A → A
within b beyond going_on = if b then beyond else going_on

module _ (W E : Type 0) where
  -- what goes on after so much cost
  abbrev After : Type 0
  After = Cost → List Work → Configuration W E → Outcome W E

  -- what is over was within its limit
  paid : (b : Bool) (k : Cost) (c : Configuration W E) (y o : Outcome W E) → IsOver o → within b (NotYet k c) y ≡ o → (b ≡ false) × (y ≡ o)
  paid true k c y o over e = absurd (subst IsOver (sym e) over)
  paid false k c y o over e = (refl, e)

  pays : (l m spent : ℕ) (k : Cost) (c : Configuration W E) (y z o : Outcome W E) → l ≤ m → IsOver o → (y ≡ o → z ≡ o) → within (nat_lt l spent) (NotYet k c) y ≡ o → within (nat_lt m spent) (NotYet k c) z ≡ o
  pays l m spent k c y z o le over same e =
      let p = paid (nat_lt l spent) k c y o over e in
      let inside : spent ≤ m = omega (arith, ltb-false l spent p.0) in
      ap (λ b. within b (NotYet k c) z) (le-ltb m spent inside) ∙ same p.1

  step_longer : (t : Step W E) (l m : ℕ) (used : Cost) (c : Configuration W E) (f g : After) (o : Outcome W E) → l ≤ m → IsOver o → ((k : Cost) (w : List Work) (d : Configuration W E) → f k w d ≡ o → g k w d ≡ o) → then_run t l used c f ≡ o → then_run t m used c g ≡ o
  step_longer (Go k w d) l m used c f g o le over same e = pays l m (total (plus used k)) used c _ _ o le over (same (plus used k) w d) e
  step_longer (Stop k x d) l m used c f g o le over same e = pays l m (total (plus used k)) used c _ _ o le over (λ h. h) e

  longer : (p : Setting W E) (s t l m : ℕ) (used : Cost) (w : List Work) (c : Configuration W E) (o : Outcome W E) → s ≤ t → l ≤ m → IsOver o → execute p s l used w c ≡ o → execute p t m used w c ≡ o
  longer p zero t l m used w c o st lm over e = absurd (subst IsOver (sym e) over)
  longer p (suc s) zero l m used w c o st lm over e = absurd (omega arith)
  longer p (suc s) (suc t) l m used [] c o st lm over e = e
  longer p (suc s) (suc t) l m used (item ∷ w) c o st lm over e =
      step_longer (work_step p item w c) l m used c (execute p s l) (execute p t m) o lm over (λ k v d h. longer p s t l m k v d o (omega arith) lm over h) e

pub more_units : (W E : Type 0) → MoreUnits W E
more_units W E p work c m n le over = longer W E p (suc m) (suc n) m n (units 0) work c (run_within p m work c) (omega arith) le over refl
