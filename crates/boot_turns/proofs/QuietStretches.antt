-- A stretch of the machine's steps in the turns of its run: in user mode each step is a turn of its own, and in system mode no turn
-- begins or is complete.
use Rattle.std.proofs.Common.{◌≡◌, ℕ, zero, suc, ◌+◌, ◌-◌, ◌<◌, ◌≤◌, ◌||◌, not, Bool, true, false, Option, Some, None, List, refl, ap, ap₂, ◌∙◌, subst, slice_index, arith, eq-eqb, ⊎_elim}
use Rattle.std.specs.Prelude.{is_some, ◌==◌}
use Rattle.std.proofs.lemmas.Bool.{cases_lt}
use Rattle.mips_table.specs.Device.{Environment}
use Rattle.mips_table.specs.declared.special.TheConstants.{MODE, PTL, EDATA}
use Rattle.mips_table.specs.Machine.{State, run, step}
use Rattle.mips_table.specs.Turns.{in_user, begins_turn, rests}
use Rattle.mips_machine.specs.Machine.{Held, state_of}
use Rattle.mips_machine.specs.Quiet.{Stretch, IsQuietlyLater}
use Rattle.mips_machine.specs.Steps.{outside_of}
use Rattle.boot_turns.specs.declared.completion.Begun.{Begun}
use Rattle.boot_turns.specs.Completes.{state_seen, is_at_rest, Progress, SkipsTurns, PassesQuietly}
use Rattle.boot_turns.proofs.StepEvents.{begun_by, event_begins, told_as_some}
use Rattle.boot_turns.proofs.NoTurnBegins.{later}

rests_by : (s : State) → s.off ≡ None → in_user s ≡ false → rests s ≡ false
unfolding rests
rests_by s on u = ap₂ (λ (o : Option ℕ) (b : Bool). b || not (not (is_some o))) on u

module _ (x : Environment) (u : State) (m : ℕ) (new : State) (stretch : Stretch x u m new) where
  -- the mode stays
  mode_stays : (i : ℕ) → i ≤ m → slice_index (run x u i).special MODE ≡ slice_index u.special MODE
  mode_stays i low = ap (λ (z : State). slice_index z.special MODE) (stretch.within i low)

  -- so does that the machine is on, which it was at the first step
  stays_on : (i : ℕ) → i ≤ m → 0 < m → (run x u i).off ≡ None
  stays_on i low some = ap (λ (z : State). z.off) (stretch.within i low) ∙ (stretch.quiet 0 some).on

  -- a step begins a turn in user mode alone
  begins_by : (i : ℕ) → i < m → begins_turn x (run x u i) ≡ in_user u
  begins_by i low =
      let z : State = run x u i in
      event_begins x z ∙ ap (begun_by z.reset (in_user z) (slice_index z.special PTL) (slice_index (step x z).special EDATA)) (stretch.ran i low)
      ∙ ap₂ (λ (r : Bool) (k : ℕ). r || (k == 1)) (stretch.quiet i low).reset (mode_stays i (omega arith))

  no_rest : (i : ℕ) → i ≤ m → 0 < m → in_user u ≡ false → rests (run x u i) ≡ false
  no_rest i low some system = rests_by (run x u i) (stays_on i low some) (ap (λ k. k == 1) (mode_stays i low) ∙ system)

module _ (x : Environment) (s : State) (t : ℕ) where
  -- more turns of one step each
  pub skips_stretch : (n m : ℕ) (new : State) → SkipsTurns x s t n → Stretch x (run x s (t + n)) m new → slice_index (run x s (t + n)).special MODE ≡ 1 → SkipsTurns x s t (n + m)
  skips_stretch n m new skips stretch mode = λ j low. ⊎_elim
      (λ (early : j < n). skips j early)
      (λ (late : n ≤ j).
      let u : State = run x s (t + n) in
      let i : ℕ = j - n in
      let here : run x u i ≡ run x s (t + j) = later x s (t + n) i ∙ ap (run x s) (omega (arith, late)) in
      let next : run x u (suc i) ≡ run x s (t + suc j) = later x s (t + n) (suc i) ∙ ap (run x s) (omega (arith, late)) in
      let less : i < m = omega (arith, late, low) in (
        subst (λ (z : State). begins_turn x z ≡ true) here (begins_by x u m new stretch i less ∙ eq-eqb _ _ mode),
        subst (λ (z : State). slice_index z.special MODE ≡ 1) next (mode_stays x u m new stretch (suc i) (omega (arith, less)) ∙ mode),
        subst (λ (z : State). z.off ≡ None) next (stays_on x u m new stretch (suc i) (omega (arith, less)) (omega (arith, less))),
      ))
      (cases_lt j n)

  -- and no turn further, where the machine is in system mode
  pub progress_stretch : (v m : ℕ) (b : Option Begun) (new : State) → Progress x s t v b → Stretch x (run x s v) m new → in_user (run x s v) ≡ false → 0 < m → Progress x s t (v + m) b
  progress_stretch v m None new p stretch system some = λ j from to. ⊎_elim
      (λ (early : j < v). p j from early)
      (λ (late : v ≤ j).
      let here : run x (run x s v) (j - v) ≡ run x s j = later x s v (j - v) ∙ ap (run x s) (omega (arith, late)) in
      subst (λ (z : State). begins_turn x z ≡ false) here (begins_by x (run x s v) m new stretch (j - v) (omega (arith, late, to)) ∙ system))
      (cases_lt j v)
  progress_stretch v m (Some b) new p stretch system some =
      let far : (j : ℕ) → v ≤ j → j ≤ v + m → rests (run x s j) ≡ false =
      λ j late to.
      let here : run x (run x s v) (j - v) ≡ run x s j = later x s v (j - v) ∙ ap (run x s) (omega (arith, late)) in
      subst (λ (z : State). rests z ≡ false) here (no_rest x (run x s v) m new stretch (j - v) (omega (arith, late, to)) some system) in
      let o = p.0 in (
        record {
          start = o.start;
          from = o.from;
          to = let a = o.to in omega (arith, a);
          none = o.none;
          begin = o.begin;
          busy = λ j after to. ⊎_elim (λ (early : j < v). o.busy j after early) (λ (late : v ≤ j). far j late (omega (arith, to))) (cases_lt j v);
          shows = o.shows;
        },
        far (v + m) (omega arith) (omega arith),
      )

left_false : (a b : Bool) → a || b ≡ false → a ≡ false
left_false true b h = h
left_false false b h = refl

-- no step is a stretch
pub none_pass : (h : Held) → PassesQuietly h h 0
none_pass h = record {
  stretch = λ count sectors. record {
    state = refl;
    quiet = λ i less. absurd (omega (arith, less));
    ran = λ i less. absurd (omega (arith, less));
    calls = λ i less. absurd (omega (arith, less));
    within = λ i low. let e : 0 ≡ i = omega (arith, low) in subst (λ i. IsQuietlyLater (state_of h sectors) (run (outside_of h.rows count) (state_of h sectors) i)) e refl;
  };
  rest = let e : h.time ≡ h.time + 0 = omega arith in ap (λ n. record h { time = n }) e;
}

module _ (x : Environment) (s : State) (t u : ℕ) where
  -- many steps or none
  passed_on : (m : ℕ) (b : Option Begun) (new : State) → Progress x s t u b → Stretch x (run x s u) m new → in_user (run x s u) ≡ false → Progress x s t (u + m) b
  passed_on zero b new p stretch system = let e : u ≡ u + 0 = omega arith in subst (λ i. Progress x s t i b) e p
  passed_on (suc m) b new p stretch system = progress_stretch x s t u (suc m) b new p stretch system (omega arith)

  -- a machine that is seen in system mode at u makes such steps: the turn is as far as it was, and the machine is on until then
  pub progress_passed : (m : ℕ) (b : Option Begun) (told : Option (List (List ℕ))) (mid new : Held) (count : ℕ) → outside_of mid.rows count ≡ x → state_seen told mid ≡ Some (run x s u) → is_at_rest mid ≡ false → Progress x s t u b →
      PassesQuietly mid new m → (state_seen told new ≡ Some (run x s (u + m))) × Progress x s t (u + m) b × ((j : ℕ) → u ≤ j → j < u + m → (run x s j).off ≡ None)
  progress_passed m b told mid new count same is busy p passes =
      let w = told_as_some told mid (run x s u) is in
      let here : Stretch x (state_of mid w.0) m (state_of new w.0) = subst (λ (z : Environment). Stretch z (state_of mid w.0) m (state_of new w.0)) same (passes.stretch count w.0) in
      let there : Stretch x (run x s u) m (state_of new w.0) = subst (λ (z : State). Stretch x z m (state_of new w.0)) w.2 here in
      let next : state_of new w.0 ≡ run x s (u + m) = there.state ∙ later x s u m in
      let system : in_user (run x s u) ≡ false = subst (λ (z : State). in_user z ≡ false) w.2 (left_false _ _ busy) in (
        ap (λ (o : Option (List (List ℕ))). state_seen o new) w.1 ∙ ap (λ (z : State). Some z) next,
        passed_on m b (state_of new w.0) p there system,
        λ j from to.
            let at : run x (run x s u) (j - u) ≡ run x s j = later x s u (j - u) ∙ ap (run x s) (omega (arith, from)) in
            subst (λ (z : State). z.off ≡ None) at (there.quiet (j - u) (omega (arith, from, to))).on,
      )
