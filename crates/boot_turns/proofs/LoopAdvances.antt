-- The loop to the end of a turn, in a run from a start.
-- It serves `loops_advance` alone.
use Rattle.std.proofs.Common.{◌≡◌, ⊎_elim, None, ℕ, zero, suc, ◌+◌, ◌-◌, ◌<◌, ◌≤◌, true, false, Option, Some, Result, Ok, Err, refl, sym, ap, ◌∙◌, subst, subst₂, arith, eq-eqb, slice_index}
use Rattle.std.specs.Prelude.{◌==◌, not, bit_or}
use Rattle.std.proofs.lemmas.Bool.{cases_lt}
use Rattle.mips_table.specs.Device.{Environment}
use Rattle.mips_table.specs.declared.special.TheConstants.{MODE}
use Rattle.mips_table.specs.Machine.{State, run}
use Rattle.mips_table.specs.Turns.{begins_turn, complete, lines_of_turn}
use Rattle.c0_meaning.specs.State.{C0State}
use Rattle.cvm_model.specs.Kernel.{Core, power_of}
use Rattle.cvm_model.specs.Cvm.{System, Status, Running, Halted, Faulted, Cvm, Begin, Steps, Traps, Interrupts, begin}
use Rattle.layer_contract.specs.Layer.{Rests}
use Rattle.boot_turns.specs.TurnEnds.{Stood}
use Rattle.boot_turns.specs.Ahead.{TurnAhead}
use Rattle.boot_turns.specs.Completes.{note, Progress, Completed, WentOff, ShownAs, SkipsTurns, CompleteOk, CompleteErr, CompleteEnds}
use Rattle.boot_turns.specs.RunMachines.{RowsGrow, RunMachines, MachinesRun}
use Rattle.boot_turns.specs.Advances.{Advanced, StillGoes, Stops, Skipped, AdvanceEnds, AdvancesTyped}
use Rattle.boot_turns.specs.declared.completion.Begun.{Begun}
use Rattle.boot_turns.specs.declared.answers.RunFault.{RunFault}
use Rattle.boot_turns.specs.declared.answers.RunFault.TheVariants.{StepLimit, Disk, Sink}
use Rattle.boot_turns.proofs.MasksAndTimes.{user_rests}

went : (x : Environment) (y : System) (s : State) (late held : ℕ) → RunMachines x y s late held → (k t : ℕ) (c : Cvm) → Stood x y s k t c → c.status ≡ Running → (now : Option State) (budget left : ℕ) (b : Begun) →
    CompleteOk x now budget left s t b → Advanced x y s k t c now budget left b
went x y s late held m k t c st r now budget left b (u, done, state, spent) = ⊎_elim
    (λ (d : Completed x s t u b).
    let w = m.found k t u c b st r d in
    record {
      ahead = w.0;
      state = subst (λ i. now ≡ Some (run x s i)) (sym w.2) state;
      spent = subst (λ i. left + i ≡ budget + t) (sym w.2) spent;
      shows = subst (λ i. b ≡ note (run x s (suc i))) (sym w.1) d.opened.shows;
    })
    (λ (d : WentOff x s t u b). absurd (d.off ((m.unfound k t u c None d.from st r d.none).1 u (omega arith))))
    done

goes : (x : Environment) (y : System) (s : State) (late held : ℕ) → RunMachines x y s late held → (k t u : ℕ) (c : Cvm) (b : Option Begun) → t ≤ u → Stood x y s k t c → c.status ≡ Running →
    Progress x s t u b → StillGoes x y s k t u
goes x y s late held m k t u c b le st r p = let w = m.unfound k t u c b le st r p in record { between = w.0; on = w.1 }

stopped : (x : Environment) (y : System) (s : State) (late held : ℕ) → RunMachines x y s late held → (k t : ℕ) (c : Cvm) → Stood x y s k t c → c.status ≡ Running → (now : Option State) (budget left : ℕ) (f : RunFault) →
    CompleteErr x now budget left s t f → Stops x y s k t now budget left f
stopped x y s late held m k t c st r now budget left StepLimit (u, le, spent, is, none, on, p) =
    let g = goes x y s late held m k t u c p.0 le st r p.1 in
    let at : u ≡ t + budget = omega (arith, spent, none) in
    record { spent = none; state = subst (λ i. now ≡ Some (run x s i)) at is; goes = subst (StillGoes x y s k t) at g }
stopped x y s late held m k t c st r now budget left Disk d = record { at = d.0; from = d.1; spent = d.2; goes = goes x y s late held m k t d.0 c d.3.0 d.1 st r d.3.1; state = d.5 }
stopped x y s late held m k t c st r now budget left Sink d = record { at = d.0; from = d.1; spent = d.2; goes = goes x y s late held m k t d.0 c d.3.0 d.1 st r d.3.1; state = d.5 }

-- THE TURNS THAT ARE PASSED
-- where k turns are complete at t, and the run goes on, the machine is on
stands : (x : Environment) (y : System) (s : State) (late held : ℕ) → RunMachines x y s late held → (k t : ℕ) (c : Cvm) → Stood x y s k t c → c.status ≡ Running → (j : ℕ) → j ≤ t → (run x s j).off ≡ None
stands x y s late held m k t c st r = (m.unfound k t t c None (omega arith) st r (λ j a b. absurd (omega (arith, a, b)))).1

-- an untrapped step is shown as none that dispatches
is_step : (b : Begin) (n : Begun) → ShownAs b n → n.dispatched ≡ false → (at : Core) × (b ≡ Steps at)
is_step (Steps at) n h e = (at, refl)
is_step (Traps cause edata at) n h e = absurd (let a = h.0 in cc)
is_step (Interrupts cause edata at pending) n h e = absurd (let a = h.0 in cc)

-- a machine that is on runs
is_running : (s : Status) (z : State) → Rests s z → z.off ≡ None → s ≡ Running
is_running Running z r on = refl
is_running Halted z r on = absurd (let e : None ≡ Some 0 = sym on ∙ r in cc)
is_running (Faulted f) z r on = absurd (let e : None ≡ Some (power_of f) = sym on ∙ r in cc)

-- one more is passed
module _ (x : Environment) (y : System) (s : State) (late held : ℕ) (m : RunMachines x y s late held) (k t : ℕ) (c : Cvm) (n : ℕ) (w : Skipped x y s k t c n) (skips : SkipsTurns x s t (suc n)) where
  next_at : t + suc n ≡ suc (t + n)
  next_at = omega arith

  this : (begins_turn x (run x s (t + n)) ≡ true) × (slice_index (run x s (t + suc n)).special MODE ≡ 1) × ((run x s (t + suc n)).off ≡ None)
  this = skips n (omega arith)

  mode_then : slice_index (run x s (suc (t + n))).special MODE ≡ 1
  mode_then = subst (λ i. slice_index (run x s i).special MODE ≡ 1) next_at this.1

  passed : Completed x s (t + n) (suc (t + n)) (note (run x s (suc (t + n))))
  passed = record {
    opened = record {
      start = t + n;
      from = omega arith;
      to = omega arith;
      none = λ j a b. absurd (omega (arith, a, b));
      begin = this.0;
      busy = λ j a b. absurd (omega (arith, a, b));
      shows = refl;
    };
    rest = user_rests (run x s (suc (t + n))) (eq-eqb (slice_index (run x s (suc (t + n))).special MODE) 1 mode_then);
  }

  found : (a : TurnAhead x y s (k + n) (t + n) w.after) × (a.start ≡ t + n) × (a.end ≡ suc (t + n))
  unfolding passed
  found = m.found (k + n) (t + n) (suc (t + n)) w.after (note (run x s (suc (t + n)))) w.stood w.running passed

  abbrev begins_with : Begin
  begins_with = begin (k + n) w.after.core (bit_or w.after.pending (lines_of_turn x s (k + n)))

  stepped : (at : Core) × (begins_with ≡ Steps at)
  stepped = is_step begins_with (note (run x s (suc found.0.start))) (m.shows (k + n) (t + n) w.after w.stood w.running found.0)
      (ap (λ i. not (slice_index (run x s (suc i)).special MODE == 1)) found.1 ∙ ap (λ v. not (v == 1)) mode_then)

  then_stood : Stood x y s (k + suc n) (t + suc n) found.0.after
  then_stood =
      let ks : suc (k + n) ≡ k + suc n = omega arith in
      let ts : found.0.end ≡ t + suc n = found.2 ∙ sym next_at in
      subst₂ (λ i j. Stood x y s i j found.0.after) ks ts found.0.stood

  then_running : found.0.after.status ≡ Running
  then_running =
      is_running found.0.after.status (run x s found.0.end) found.0.stood.rests.0 (subst (λ i. (run x s i).off ≡ None) (sym (found.2 ∙ sym next_at)) this.2)

  one_more : Skipped x y s k t c (suc n)
  one_more = record {
    after = found.0.after;
    stood = then_stood;
    running = then_running;
    rows = subst (RowsGrow (k + n) w.after found.0.after) stepped.1 (m.rows (k + n) w.after found.0.after w.stood.cvm w.running found.0.stood.cvm) ∙ w.rows;
    current = m.stays (k + n) w.after found.0.after stepped.0 w.stood.cvm w.running found.0.stood.cvm stepped.1 ∙ w.current;
    done = λ j h. ⊎_elim
        (λ (lt : j < suc n). w.done j (omega (arith, lt)))
        (λ (ge : suc n ≤ j). let e : suc n ≡ j = omega (arith, ge, h) in subst (λ i. complete x s (t + i) ≡ k + i) e then_stood.all)
        (cases_lt j (suc n));
    on = stands x y s late held m (k + suc n) (t + suc n) found.0.after then_stood then_running;
    steps = skips;
  }

pub skipped : (x : Environment) (y : System) (s : State) (late held : ℕ) → RunMachines x y s late held → (k t : ℕ) (c : Cvm) → Stood x y s k t c → c.status ≡ Running → (n : ℕ) → SkipsTurns x s t n → Skipped x y s k t c n
skipped x y s late held m k t c st r zero skips =
    let ks : k ≡ k + 0 = omega arith in
    let ts : t ≡ t + 0 = omega arith in
    record {
      after = c;
      stood = subst₂ (λ i j. Stood x y s i j c) ks ts st;
      running = r;
      rows = refl;
      current = refl;
      done = λ j h. let e : 0 ≡ j = omega (arith, h) in subst (λ i. complete x s (t + i) ≡ k + i) e (subst₂ (λ i j. complete x s j ≡ i) ks ts st.all);
      on = λ j h. stands x y s late held m k t c st r j (omega (arith, h));
      steps = skips;
    }
skipped x y s late held m k t c st r (suc n) skips = one_more x y s late held m k t c n (skipped x y s late held m k t c st r n (λ j l. skips j (omega (arith, l)))) skips

by_result : (x : Environment) (y : System) (s : State) (late held : ℕ) → RunMachines x y s late held → (k t : ℕ) (c : Cvm) → Stood x y s k t c → c.status ≡ Running → (now : Option State) (budget left most : ℕ) (result : Result (ℕ × Begun) RunFault) →
    CompleteEnds x now budget left s t most result → AdvanceEnds x y s k t c now budget left most result
by_result x y s late held m k t c st r now budget left most (Ok b) (n, few, small, skips, d) =
    let w = skipped x y s late held m k t c st r n skips in
    (n, few, small, w, (d.0, went x y s late held m (k + n) (t + n) w.after w.stood w.running now (budget - n) left b.1 d.1))
by_result x y s late held m k t c st r now budget left most (Err f) (n, few, small, skips, d) =
    let w = skipped x y s late held m k t c st r n skips in
    (n, few, small, w, stopped x y s late held m (k + n) (t + n) w.after w.stood w.running now (budget - n) left f d)

pub advances : (Typed : C0State → Type 0) → MachinesRun Typed → (x : Environment) (before now : Option State) (budget left most : ℕ) (result : Result (ℕ × Begun) RunFault) →
    ((s : State) (t : ℕ) → before ≡ Some (run x s t) → CompleteEnds x now budget left s t most result) → AdvancesTyped Typed x before now budget left most result
advances Typed m x before now budget left most result ends = λ y s late held from k t c st r is.
    by_result x y s late held (m x y s late held from) k t c st r now budget left most result (ends s t is)
