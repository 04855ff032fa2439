-- A call that goes on with a run, by what the turns did, and whether what is printed before or behind them was cut off.
use Rattle.std.proofs.Common.{◌≡◌, ℕ, zero, suc, ◌+◌, ◌-◌, ◌^◌, ◌<◌, ◌≤◌, false, Option, Some, None, List, [], length, map, Result, Ok, Err, refl, sym, ap, ◌∙◌, subst, arith}
use Rattle.std.proofs.lemmas.Bool.{cond-false}
use Rattle.std.proofs.lemmas.List.{length-map}
use Rattle.c0_tree.specs.Tree.{CUnit}
use Rattle.c0_meaning.specs.TypedState.{IsTypedState}
use Rattle.mips_machine.specs.Steps.{outside_of}
use Rattle.cvm_model.specs.Primitives.{user_of}
use Rattle.cvm_model.specs.Text.{start_row}
use Rattle.mips_table.specs.Device.{Environment}
use Rattle.mips_table.specs.Machine.{State, run}
use Rattle.mips_table.specs.Turns.{rests, turn_of, complete, lines_of_turn}
use Rattle.cvm_model.specs.Cvm.{Boot as CvmBoot, System, Running, Cvm, IsCvm, first_flat, map_of}
use Rattle.layer_contract.specs.declared.boot.Boot.{Boot as Booted}
use Rattle.layer_contract.specs.Boots.{boot_of}
use Rattle.boot_turns.specs.RunMachines.{MachinesRun}
use Rattle.boot_turns.specs.Advances.{FaultStops, Skipped}
use Rattle.boot_turns.specs.Premises.{StartsFrom}
use Rattle.boot_turns.specs.Tracing.{Traced, CutAt}
use Rattle.boot_turns.specs.TurnEnds.{first_user_machine}
use Rattle.boot_turns.specs.Completes.{state_seen, LeftBy}
use Rattle.boot_turns.specs.declared.completion.Begun.{Begun}
use Rattle.boot_turns.specs.declared.tracer.Tracer.{Tracer}
use Rattle.boot_turns.specs.declared.answers.View.{View}
use Rattle.boot_turns.specs.declared.answers.View.TheVariants.{Boot, Trace}
use Rattle.boot_turns.specs.declared.answers.Turn.{Turn}
use Rattle.boot_turns.specs.declared.answers.RunFault.{RunFault}
use Rattle.boot_turns.specs.declared.answers.RunFault.TheVariants.{StepLimit, Disk, Sink}
use Rattle.boot_run.specs.LoadEnds.{Kept, viewed}
use Rattle.boot_run.specs.RunEnds.{SeesUser}
use Rattle.boot_run.specs.TurnCalls.{Around, run_around, ReadyAt, Traces, EndedBy, Broken, TurnsRun}
use Rattle.boot_run.specs.TurnParts.{rows_before, TurnCounted, Moved, Views}
use Rattle.boot_run.proofs.TurnDone.{Wrote}
use Rattle.boot_run.proofs.TurnsPassed.{spread, turns_spent, turns_turned}
use Rattle.boot_run.specs.Shown.{ended_of}

-- by what is viewed: a boot, or one of the users
pub by_view : {L : Type 0} (r : Kept L) → Views r → (P : View → Type 0) → (r.tracer ≡ None → P Boot) → ((kept : Tracer) → r.tracer ≡ Some kept → 1 ≤ kept.user → kept.user ≤ length r.boot.users.items → P (Trace kept.user)) → P r.view
by_view r w P boot trace = subst P (sym w.view) (by r.tracer refl)
  where
    by : (o : Option Tracer) → r.tracer ≡ o → P (viewed o)
    by None e = boot e
    by (Some kept) e = let h : SeesUser (Trace kept.user) (length r.boot.users.items) = subst (λ (v : View). SeesUser v (length r.boot.users.items)) (w.view ∙ ap viewed e) w.user in trace kept e h.0 h.1

-- what is printed before turn k of a trace: the start row, of the boot that the run has
abbrev pub start_at : System → (u : ℕ) → ℕ → List ℕ
start_at y u zero = start_row u (first_user_machine y u)
start_at y u (suc k) = []

pub starts : (b : Booted) (kept : Tracer) (n : ℕ) (y : System) → y.boot ≡ boot_of b → rows_before b (Some kept) n ≡ start_at y kept.user n
starts b kept zero y same = ap (λ (q : CvmBoot). start_row kept.user (user_of (map first_flat q.users) kept.user)) (sym same)
starts b kept (suc n) y same = refl

module _ {L : Type 0} (r new : Kept L) (count most : ℕ) (told retold : Option (List (List ℕ))) (budget left : ℕ) (views : Views r) (law : (u : CUnit) → MachinesRun (IsTypedState u)) where
  abbrev x : Environment
  x = outside_of r.machine.rows count

  -- P of each boot whose run, viewed so, stands there
  abbrev Found : View → (System → State → ℕ → Type 0) → Type 0
  Found v P = (u : CUnit) (y : System) (s0 : State) (delay bound : ℕ) (k t : ℕ) (c : Cvm) → y.boot ≡ boot_of r.boot → StartsFrom (IsTypedState u) (outside_of r.machine.rows count) y s0 delay bound →
      ReadyAt (outside_of r.machine.rows count) y s0 v k t c (run_around r told budget) → P y s0 t

  -- the user is one of the boot's
  few : (y : System) (u : ℕ) → y.boot ≡ boot_of r.boot → u ≤ length r.boot.users.items → u ≤ length y.boot.users
  few y u same le = subst (λ n. u ≤ n) (sym (ap (λ (q : CvmBoot). length q.users) same ∙ length-map r.boot.users.items (λ words. words.items))) le

  -- what stands before the turn was cut off, and no step is made
  pub cut_before : TurnsRun count r most (run_around r told budget) (run_around r told budget) (Err Sink)
  cut_before = λ u y s0 delay bound k t c same lawful ready running.
      let m = law u x y s0 delay bound lawful in
      let on = (m.unfound k t t c None (omega arith) ready.stood running (λ j low high. absurd (omega (arith, low, high)))).1 in
      let at : r.machine.time ≡ t = ready.steps in
      record {
        most = omega (arith, at);
        fewer = λ j low high. absurd (omega (arith, low, high, at));
        on = λ j high. on j (omega (arith, high, at));
        state = ready.state ∙ ap (λ i. Some (run x s0 i)) (sym at);
        ended = (c, subst (λ n. IsCvm y (lines_of_turn x s0) n c) (sym (ap (complete x s0) at ∙ ready.stood.all)) ready.stood.cvm, ready.ended);
      }

  module _ (spent : new.machine.time + left ≡ r.machine.time + budget) where
    -- a call failed in a step
    module _ (u : CUnit) (y : System) (s0 : State) (delay bound : ℕ) (k t : ℕ) (c : Cvm) (ready : ReadyAt x y s0 r.view k t c (run_around r told budget)) (f : RunFault) (n : ℕ) (less : n < most) (le : n ≤ budget) (w : Skipped x y s0 k t c n)
        (stops : FaultStops x y s0 (k + n) (t + n) (state_seen retold new.machine) (budget - n) left f) where
      here : new.machine.time ≡ suc stops.at
      here =
          let at : r.machine.time ≡ t = ready.steps in
          let sum = stops.spent in
          omega (arith, spent, at, sum, le)

      step_broke : EndedBy x y s0 (run_around new retold left) f → Broken x y s0 t (k + most) (run_around r told budget) (run_around new retold left) f
      step_broke ended =
          let at : r.machine.time ≡ t = ready.steps in
          record {
            most = omega (arith, spent, at);
            fewer = λ j low high. (let h = (spread x y s0 k t c n w j (λ i l h. stops.goes.between i l (omega (arith, h, high, here))) j low (omega arith)).1 in omega (arith, h, less));
            on = λ j high. stops.goes.on j (omega (arith, high, here));
            state = subst (λ i. LeftBy f (state_seen retold new.machine) (run x s0 i)) (sym here) stops.state;
            ended = ended;
          }

      -- in the middle of a turn the run goes on
      mid_turn : c.status ≡ Running → new.ended ≡ r.ended → CutAt x s0 t budget left → (past : Cvm) × IsCvm y (lines_of_turn x s0) (complete x s0 new.machine.time) past × (new.ended ≡ ended_of past.status)
      mid_turn running ended (at, spent, busy) =
          let sum = stops.spent in
          let same : at ≡ stops.at = omega (arith, spent, sum, le) in
          let still : complete x s0 (suc stops.at) ≡ k + n =
          cond-false (rests (run x s0 (suc stops.at))) (turn_of x s0 (suc stops.at)) (complete x s0 stops.at) (subst (λ i. rests (run x s0 (suc i)) ≡ false) same busy) ∙ stops.goes.between stops.at stops.from (omega arith) in
          (w.after, subst (λ i. IsCvm y (lines_of_turn x s0) i w.after) (sym (ap (complete x s0) here ∙ still)) w.stood.cvm, ended ∙ ready.ended ∙ ap ended_of running ∙ sym (ap ended_of w.running))

    -- of a trace whose rows were cut off the step completed no turn
    cut_at : Moved count r new most told retold budget left (Err Sink) → Found r.view (λ y s0 t. CutAt (outside_of r.machine.rows count) s0 t budget left)
    cut_at w = by_view r views (λ v. Found v (λ y s0 t. CutAt (outside_of r.machine.rows count) s0 t budget left)) (λ e. absurd (w.silent e refl))
        (λ kept e low high. λ u y s0 delay bound k t c same lawful ready.
        w.traces u y s0 delay bound kept.user t lawful (ap map_of (sym same)) low (few y kept.user same high) ready.state ready.traces)

    -- the turns were broken off
    pub broke_off : (f : RunFault) → Moved count r new most told retold budget left (Err f) → new.ended ≡ r.ended → TurnsRun count r most (run_around r told budget) (run_around new retold left) (Err f)
    broke_off StepLimit w ended = λ u y s0 delay bound k t c same lawful ready running.
        turns_spent x y s0 delay bound (law u x y s0 delay bound lawful) r.view k t c most (run_around r told budget) (run_around new retold left) ready running
        (w.advances u y s0 delay bound lawful k t c ready.stood running ready.state) spent ended
    broke_off Disk w ended = λ u y s0 delay bound k t c same lawful ready running.
        let a = w.advances u y s0 delay bound lawful k t c ready.stood running ready.state in
        step_broke u y s0 delay bound k t c ready Disk a.0 a.1 a.2 a.3 a.4 (ended ∙ ready.ended ∙ ap ended_of running)
    broke_off Sink w ended = λ u y s0 delay bound k t c same lawful ready running.
        let a = w.advances u y s0 delay bound lawful k t c ready.stood running ready.state in
        step_broke u y s0 delay bound k t c ready Sink a.0 a.1 a.2 a.3 a.4
        (mid_turn u y s0 delay bound k t c ready Sink a.0 a.1 a.2 a.3 a.4 running ended (cut_at w u y s0 delay bound k t c same lawful ready))

    module _ (made skipped : ℕ) (b : Begun) (answer : Turn) (number : made ≡ skipped + 1) (w : Moved count r new most told retold budget left (Ok (skipped, b))) (counted : TurnCounted r new skipped b answer)
        (small : r.machine.time + budget < 2 ^ 64) (fault : new.fault ≡ r.fault) (none : r.tracer ≡ None → new.tracer ≡ None) where
      wrote : Wrote new.machine skipped b answer (run_around r told budget) (run_around new retold left)
      wrote = record { spent = spent; small = small; turns = counted.turns; current = counted.current; ended = counted.ended; fault = fault; is = counted.is }

      -- what is kept of a trace where they end
      kept_there : Found r.view (λ y s0 t. (end : ℕ) → left + end ≡ budget + t → Traces (outside_of r.machine.rows count) y s0 r.view end new.tracer)
      kept_there = by_view r views (λ v. Found v (λ y s0 t. (end : ℕ) → left + end ≡ budget + t → Traces (outside_of r.machine.rows count) y s0 v end new.tracer)) (λ e. λ u y s0 delay bound k t c same lawful ready end sum. none e)
          (λ kept e low high. λ u y s0 delay bound k t c same lawful ready end sum.
          let on = w.traces u y s0 delay bound kept.user t lawful (ap map_of (sym same)) low (few y kept.user same high) ready.state ready.traces in
          let all = on.spent in
          let here : on.at ≡ end = omega (arith, all, sum) in
          subst (λ i. Traced x y s0 kept.user i new.tracer) here on.traced)

      -- the last turn is complete
      pub went : TurnsRun count r most (run_around r told budget) (run_around new retold left) (Ok (made, answer))
      went = λ u y s0 delay bound k t c same lawful ready running.
          turns_turned x y s0 delay bound (law u x y s0 delay bound lawful) r.view k t c most (run_around r told budget) (run_around new retold left) ready running retold new.machine skipped b refl
          (w.advances u y s0 delay bound lawful k t c ready.stood running ready.state) answer wrote (kept_there u y s0 delay bound k t c same lawful ready) made number

-- the rows behind the last turn were cut off
pub cut_behind : {L : Type 0} (count : ℕ) (r new : Kept L) (most : ℕ) (before : Around) (retold : Option (List (List ℕ))) (left : ℕ) (made : ℕ) (answer : Turn) →
    TurnsRun count r most before (run_around new retold left) (Ok (made, answer)) → TurnsRun count r most before (run_around new retold left) (Err Sink)
cut_behind count r new most before retold left made answer runs = λ u y s0 delay bound k t c same lawful ready running.
    let q = runs u y s0 delay bound k t c same lawful ready running in
    let a = q.4.1.ahead in
    let less = q.1 in
    let le = q.2 in
    let steps : new.machine.time ≡ a.end = q.4.1.ready.steps in
    let sum = q.4.1.budget in
    record {
      most = omega (arith, steps, sum, le);
      fewer = λ j low high. (let h = (spread (outside_of r.machine.rows count) y s0 k t c q.0 q.3 j (λ i l h. a.between i l (omega (arith, h, high, steps))) j low (omega arith)).1 in omega (arith, h, less));
      on = λ j high. a.on j (omega (arith, high, steps));
      state = q.4.1.ready.state ∙ ap (λ i. Some (run (outside_of r.machine.rows count) s0 i)) (sym steps);
      ended = (
        a.after,
        subst (λ n. IsCvm y (lines_of_turn (outside_of r.machine.rows count) s0) n a.after) (sym (ap (complete (outside_of r.machine.rows count) s0) steps ∙ q.4.1.ready.stood.all)) q.4.1.ready.stood.cvm,
        q.4.1.ready.ended,
      );
    }

-- a fault that is passed on
pub passed : {L : Type 0} (count : ℕ) (r : Kept L) (most : ℕ) (before after : Around) (f e : RunFault) (result : Result (ℕ × Turn) RunFault) → result ≡ Err e → f ≡ e → TurnsRun count r most before after (Err f) → TurnsRun count r most before after result
passed count r most before after f e result is same w = subst (TurnsRun count r most before after) (ap (λ g. Err g) same ∙ sym is) w

-- what turns come to that were broken off doesn't hang on the kept fault
pub runs_faulted : {L : Type 0} (count : ℕ) (r : Kept L) (most : ℕ) (before after : Around) (f : RunFault) (kept : Option RunFault) → TurnsRun count r most before after (Err f) → TurnsRun count r most before (record after { fault = kept }) (Err f)
runs_faulted count r most before after StepLimit kept w = λ u y s0 delay bound k t c same lawful ready running.
    let h = w u y s0 delay bound k t c same lawful ready running in
    let q = h.4 in
    (h.0, h.1, h.2, h.3, record { spent = q.spent; state = q.state; steps = q.steps; between = q.between; on = q.on; ended = q.ended })
runs_faulted count r most before after Disk kept w = λ u y s0 delay bound k t c same lawful ready running.
    let h = w u y s0 delay bound k t c same lawful ready running in
    record { most = h.most; fewer = h.fewer; on = h.on; state = h.state; ended = h.ended }
runs_faulted count r most before after Sink kept w = λ u y s0 delay bound k t c same lawful ready running.
    let h = w u y s0 delay bound k t c same lawful ready running in
    record { most = h.most; fewer = h.fewer; on = h.on; state = h.state; ended = h.ended }

pub runs_after : {L : Type 0} (a b : Kept L) → a ≡ b → (count : ℕ) (r : Kept L) (most : ℕ) (before : Around) (told : Option (List (List ℕ))) (budget : ℕ) (result : Result (ℕ × Turn) RunFault) →
    TurnsRun count r most before (run_around b told budget) result → TurnsRun count r most before (run_around a told budget) result
runs_after a b e count r most before told budget result w = subst (λ (q : Kept _). TurnsRun count r most before (run_around q told budget) result) (sym e) w
