use Rattle.std.proofs.lemmas.Result.{err_from_is_err_and}
use Rattle.std.specs.Prelude.{is_some, not, IsSome, IfSome, length}
use Rattle.std.proofs.Common.{ℕ, ◌+◌, ◌-◌, ◌≤◌, Bool, true, false, Option, Some, Result, Ok, Err, suc, ◌≡◌, ◌<◌, inl, inr, None, List, refl, sym, ap, ap₂, ◌∙◌, subst, ⊎_elim, arith}
use Rattle.std.specs.Option.{option_map}
use Rattle.std.proofs.lemmas.Bool.{cases_lt}
use Rattle.mips_table.specs.Device.{Environment}
use Rattle.mips_table.specs.Machine.{State, run, step}
use Rattle.mips_machine.specs.Machine.{Held, state_of}
use Rattle.mips_machine.specs.Quiet.{Stretch}
use Rattle.mips_machine.specs.Steps.{outside_of}
use Rattle.boot_turns.specs.declared.completion.Stepped.{Stepped}
use Rattle.boot_turns.specs.declared.completion.Stepped.TheVariants.{Kept}
use Rattle.boot_turns.specs.declared.tracer.Tracer.{Tracer}
use Rattle.boot_turns.proofs.StepEvents.{told_as_some}
use Rattle.boot_turns.proofs.MasksAndTimes.{off_rests}
use Rattle.boot_turns.specs.declared.completion.Begun.{Begun}
use Rattle.boot_turns.specs.declared.answers.RunFault.{RunFault}
use Rattle.mips_table.specs.Turns.{rests}
use Rattle.boot_turns.specs.Completes.{state_seen, PassesQuietly, SkipsTurns, Open, Progress, turn_began, KeptUser, StepBegan}
use Rattle.boot_turns.specs.Tracing.{Tracing, CanTrace, tracer_at, tracing}
use Rattle.layer_map.specs.Map.{Map}
use Rattle.mips_table.specs.Fits.{NamesSector}
use Rattle.boot_turns.proofs.QuietStretches.{progress_passed}
use Rattle.boot_turns.proofs.LoopSteps.{seen_more, one_step, left_at, step_stops, skips_more, skips_passed, Opened, seen_rests, seen_note}
use Rattle.boot_turns.proofs.StepMakes.{no_steps, as_made, stretch_then, at_made, one_more}
use Rattle.boot_turns.specs.LoopScripts.{StepsCall}
use Rattle.boot_turns.proofs.TraceLoops.{Tracks, tracks_none, tracks_limit, tracks_whole, tracks_more, tracks_stop}
use Rattle.boot_turns.proofs.completion.complete.Given.{Over}
use Rattle.boot_turns.proofs.completion.complete.Goals.{In_ok-stepped, After-note}
use Rattle.boot_turns.proofs.completion.complete.Goals as goal

off_none : (o r : Option ℕ) (b : Bool) → o ≡ r → is_some o ≡ not b → b ≡ true → r ≡ None
off_none None r b e f h = sym e
off_none (Some w) r b e f h = absurd (let g : true ≡ false = f ∙ ap not h in cc)

off_some : (o r : Option ℕ) (b : Bool) → o ≡ r → is_some o ≡ not b → b ≡ false → (w : ℕ) × (r ≡ Some w)
off_some None r b e f h = absurd (let g : false ≡ true = f ∙ ap not h in cc)
off_some (Some w) r b e f h = (w, sym e)

same_err : {a b : RunFault} → ◌≡◌ {A = Result (ℕ × Begun) RunFault} (Err a) (Err b) → a ≡ b
same_err e = cc

true_false : (b : Bool) → b ≡ true → b ≡ false → ⊥
true_false b e f = cc

-- a turn that goes on hasn't come to a machine that is off
none_begun : (x : Environment) (s : State) (t u w : ℕ) (b : Option Begun) → Progress x s t u b → (run x s u).off ≡ Some w → Progress x s t u None
none_begun x s t u w None p off = p
none_begun x s t u w (Some b) p off = absurd (true_false (rests (run x s u)) (off_rests (run x s u) w off) p.1)

-- the machine is on where it was found so, and was before
here_on : (told : Option (List (List ℕ))) (held : Held) (v : State) → state_seen told held ≡ Some v → held.hardware.off ≡ None → v.off ≡ None
here_on told held v is on = let w = told_as_some told held v is in ap (λ (z : State). z.off) (sym w.2) ∙ on

was_on : (x : Environment) (s : State) (t u : ℕ) → (run x s u).off ≡ None → ((j : ℕ) → t ≤ j → j < u → (run x s j).off ≡ None) → (j : ℕ) → t ≤ j → j < suc u → (run x s j).off ≡ None
was_on x s t u on before j a b = ⊎_elim (λ (lt : j < u). before j a lt) (λ (ge : u ≤ j). let d : u ≡ j = omega (arith, ge, b) in subst (λ i. (run x s i).off ≡ None) d on) (cases_lt j u)

-- the trace goes on through the step
tracked : (g : Over) (c : In_ok-stepped g) → Tracks (outside_of c.args.machine.now.rows (g.D.Sectors.size c.args.disk.now)) c.args.map.now
    (state_seen (g.D.Sectors.sectors c.args.disk.now) c.args.machine.now) (state_seen (g.D.Sectors.sectors c.step_traced.new.disk) c.step_traced.new.machine)
    (tracing c.args.tracer.now c.args.budget.now)
    (tracing c.step_traced.new.tracer (c.loop-begun.budget - 1))
tracked g c =
    let p = c.if-budget-eq0.false in
    tracks_more (g.D.Sectors.size c.args.disk.now) c.args.map.now c.args.machine.now c.loop-begun.machine (g.D.Sectors.sectors c.args.disk.now) (g.D.Sectors.sectors c.loop-begun.disk)
    (tracing c.args.tracer.now c.args.budget.now) (tracing c.loop-begun.tracer c.loop-begun.budget)
    c.loop-begun.invariant.tracks (outside_of c.loop-begun.machine.rows (g.D.Sectors.size c.loop-begun.disk)) (ap₂ outside_of c.loop-begun.invariant.rows c.loop-begun.invariant.size)
    (tracing c.step_traced.new.tracer (c.loop-begun.budget - 1)) (omega (arith, p))
    c.step_traced.new.machine (g.D.Sectors.sectors c.step_traced.new.disk) c.in_ok-stepped.stepped c.in_ok-stepped.ensures.traced c.in_ok-stepped.ensures.ends.ran

-- the step is the next of a run, and what is noted then says how far the turn is
opened : (g : Over) (c : After-note g) (s : State) (t u : ℕ) → t ≤ u →
    state_seen (g.D.Sectors.sectors c.loop-begun.disk) c.loop-begun.machine ≡ Some (run (outside_of c.args.machine.now.rows (g.D.Sectors.size c.args.disk.now)) s u) →
    Progress (outside_of c.args.machine.now.rows (g.D.Sectors.size c.args.disk.now)) s t u c.loop-begun.begun →
    (state_seen (g.D.Sectors.sectors c.step_traced.new.disk) c.step_traced.new.machine ≡ Some (run (outside_of c.args.machine.now.rows (g.D.Sectors.size c.args.disk.now)) s (suc u)))
    × Opened (outside_of c.args.machine.now.rows (g.D.Sectors.size c.args.disk.now)) s t (suc u) c.note.new.begun
opened g c s t u le is so_far =
    let began : StepBegan (g.D.Sectors.size c.loop-begun.disk) c.loop-begun.machine (g.D.Sectors.sectors c.loop-begun.disk) c.began.result =
    subst (λ (b : Bool). StepBegan (g.D.Sectors.size c.loop-begun.disk) c.loop-begun.machine (g.D.Sectors.sectors c.loop-begun.disk) b) (sym c.began.ensures) c.in_ok-stepped.ensures.ends.began in
    one_step (outside_of c.args.machine.now.rows (g.D.Sectors.size c.args.disk.now)) (outside_of c.loop-begun.machine.rows (g.D.Sectors.size c.loop-begun.disk)) s t u
    (g.D.Sectors.sectors c.loop-begun.disk) (g.D.Sectors.sectors c.step_traced.new.disk) c.loop-begun.machine c.step_traced.new.machine c.loop-begun.begun c.note.new.begun c.began.result
    (ap₂ outside_of c.loop-begun.invariant.rows c.loop-begun.invariant.size) le is so_far c.in_ok-stepped.ensures.ends.ran began c.note.ensures

-- THE CALLS of the steps so far and of one more, where it was done
stepped_far : (g : Over) (c : In_ok-stepped g) (s : State) (t : ℕ) → state_seen (g.D.Sectors.sectors c.args.disk.now) c.args.machine.now ≡ Some (run (outside_of c.args.machine.now.rows (g.D.Sectors.size c.args.disk.now)) s t) →
    state_seen (g.D.Sectors.sectors c.step_traced.new.disk) c.step_traced.new.machine ≡ Some (run (outside_of c.args.machine.now.rows (g.D.Sectors.size c.args.disk.now)) s (t + (c.args.budget.now - (c.loop-begun.budget - 1))))
stepped_far g c =
    let x = outside_of c.args.machine.now.rows (g.D.Sectors.size c.args.disk.now) in
    let same : outside_of c.loop-begun.machine.rows (g.D.Sectors.size c.loop-begun.disk) ≡ x = ap₂ outside_of c.loop-begun.invariant.rows c.loop-begun.invariant.size in
    let ran = subst (λ z. state_seen (g.D.Sectors.sectors c.step_traced.new.disk) c.step_traced.new.machine ≡ option_map (step z) (state_seen (g.D.Sectors.sectors c.loop-begun.disk) c.loop-begun.machine)) same c.in_ok-stepped.ensures.ends.ran in
    let less = c.loop-begun.invariant.less in
    let p = c.if-budget-eq0.false in
    at_made x (state_seen (g.D.Sectors.sectors c.args.disk.now) c.args.machine.now) (state_seen (g.D.Sectors.sectors c.step_traced.new.disk) c.step_traced.new.machine) c.args.budget.now (c.loop-begun.budget - 1) (omega (arith, less))
    (λ s t h.
    let i = c.loop-begun.invariant.ran s t h in
    let b = i.2 in
    (suc i.0, omega (arith, b, p), seen_more x (state_seen (g.D.Sectors.sectors c.loop-begun.disk) c.loop-begun.machine) (state_seen (g.D.Sectors.sectors c.step_traced.new.disk) c.step_traced.new.machine) (run x s i.0) ran i.3))

stepped_calls : (g : Over) (c : In_ok-stepped g) →
    StepsCall {T = Unit {0}} g.O.Sink g.D.Sectors c.args.map.now c.args.machine.now c.args.tracer.now (c.args.out.now, c.args.disk.now) (c.step_traced.new.out, c.step_traced.new.disk) (c.args.budget.now - (c.loop-begun.budget - 1)) (Ok tt)
stepped_calls g c =
    let p = c.if-budget-eq0.false in
    as_made (outside_of c.args.machine.now.rows (g.D.Sectors.size c.args.disk.now)) g.O.Sink g.D.Sectors c.args.map.now c.args.machine.now c.args.tracer.now c.args.out.now c.args.disk.now {R = Stepped} {T = Unit {0}} (Ok c.in_ok-stepped.stepped) (Ok tt) c.step_traced.new.out c.step_traced.new.disk
    (c.args.budget.now - (c.loop-begun.budget - 1)) (c.args.budget.now - (c.loop-begun.budget - 1)) refl refl
    (one_more g.O.Sink g.D.Sectors c.args.map.now c.args.machine.now c.loop-begun.machine c.args.tracer.now c.loop-begun.tracer c.args.out.now c.loop-begun.out c.step_traced.new.out c.args.disk.now c.loop-begun.disk c.step_traced.new.disk c.args.budget.now c.loop-begun.budget
    (Ok c.in_ok-stepped.stepped) c.loop-begun.invariant.less (omega (arith, p)) c.loop-begun.invariant.rows c.loop-begun.invariant.size c.loop-begun.invariant.script (λ s t h. let i = c.loop-begun.invariant.ran s t h in (i.0, i.2, i.3))
    (λ e. (c.loop-begun.invariant.untraced e).0) c.loop-begun.invariant.tracks c.in_ok-stepped.ensures.script)

some_too : (a b : Option Tracer) → option_map (λ (k : Tracer). k.user) a ≡ option_map (λ (k : Tracer). k.user) b → IsSome b → IsSome a
some_too None None e h = h
some_too None (Some k) e h = absurd (cc)
some_too (Some k) b e h = refl

passed_calls : (g : Over) (c : In_ok-stepped g) (new : Held) (left n : ℕ) → PassesQuietly c.step_traced.new.machine new n → left + n ≡ c.loop-begun.budget - 1 → (IsSome c.step_traced.new.tracer → n ≡ 0) →
    StepsCall {T = Unit {0}} g.O.Sink g.D.Sectors c.args.map.now c.args.machine.now c.args.tracer.now (c.args.out.now, c.args.disk.now) (c.step_traced.new.out, c.step_traced.new.disk) (c.args.budget.now - left) (Ok tt)
passed_calls g c new left n passes spent none =
    let x = outside_of c.args.machine.now.rows (g.D.Sectors.size c.args.disk.now) in
    let made : ℕ = c.args.budget.now - (c.loop-begun.budget - 1) in
    let less = c.loop-begun.invariant.less in
    let p = c.if-budget-eq0.false in
    let mid : outside_of c.step_traced.new.machine.rows (g.D.Sectors.size c.args.disk.now) ≡ x = ap (λ rows. outside_of rows (g.D.Sectors.size c.args.disk.now)) (c.in_ok-stepped.ensures.leaves.stays.rows ∙ c.loop-begun.invariant.rows) in
    stretch_then x g.O.Sink g.D.Sectors c.args.map.now c.args.machine.now c.args.tracer.now c.args.out.now c.args.disk.now c.step_traced.new.out c.step_traced.new.disk made (stepped_calls g c)
    c.step_traced.new.machine (stepped_far g c) new n (c.args.budget.now - left) (omega (arith, spent, less, p))
    (λ ss. subst (λ z. Stretch z (state_of c.step_traced.new.machine ss) n (state_of new ss)) mid (passes.stretch (g.D.Sectors.size c.args.disk.now) ss))
    (λ traced. none (some_too c.step_traced.new.tracer c.args.tracer.now (c.in_ok-stepped.ensures.leaves.trace.user ∙ c.loop-begun.invariant.user) traced))

pub loop-begun-init : goal.loop-begun-init
loop-begun-init g c = record {
  rows = refl;
  memory = refl;
  sector = c.requires.can.sector;
  size = refl;
  time = refl;
  few = let e = c.requires.some in omega (arith, e);
  limit = let e = c.requires.some in omega (arith, e);
  fresh = λ l. refl;
  ran = λ s t h. (t, omega arith, refl, h, λ j a b. absurd (omega (arith, a, b)), λ j l. absurd (omega (arith, l)), λ l. omega arith, λ j a b. absurd (omega (arith, a, b)));
  can = c.requires.can.trace;
  user = refl;
  untraced = λ e. (e, refl);
  less = omega arith;
  script = as_made (outside_of c.args.machine.now.rows (g.D.Sectors.size c.args.disk.now)) g.O.Sink g.D.Sectors c.args.map.now c.args.machine.now c.args.tracer.now c.args.out.now c.args.disk.now {R = Unit {0}} {T = Unit {0}} (Ok tt) (Ok tt) c.args.out.now c.args.disk.now
      0 (c.args.budget.now - c.args.budget.now) (omega arith) refl (no_steps (outside_of c.args.machine.now.rows (g.D.Sectors.size c.args.disk.now)) g.O.Sink g.D.Sectors c.args.map.now c.args.machine.now c.args.tracer.now c.args.out.now c.args.disk.now);
  tracks = tracks_none (outside_of c.args.machine.now.rows (g.D.Sectors.size c.args.disk.now)) c.args.map.now (state_seen (g.D.Sectors.sectors c.args.disk.now) c.args.machine.now)
      (tracing c.args.tracer.now c.args.budget.now);
}

pub returns-then-budget-eq0-clause-traced : goal.returns-then-budget-eq0-clause-traced
returns-then-budget-eq0-clause-traced g c =
    tracks_limit (g.D.Sectors.size c.args.disk.now) c.args.map.now c.args.machine.now c.loop-begun.machine (g.D.Sectors.sectors c.args.disk.now) (g.D.Sectors.sectors c.loop-begun.disk)
    (tracing c.args.tracer.now c.args.budget.now) (tracing c.loop-begun.tracer c.loop-begun.budget) c.loop-begun.invariant.tracks

pub returns-then-budget-eq0-clause-ends : goal.returns-then-budget-eq0-clause-ends
returns-then-budget-eq0-clause-ends g c = λ s t h.
    let i = c.loop-begun.invariant.ran s t h in
    let x = outside_of c.args.machine.now.rows (g.D.Sectors.size c.args.disk.now) in
    let n : ℕ = c.loop-begun.skipped in
    let le = i.1 in
    let b = i.2 in
    let small : n ≤ c.args.budget.now = omega (arith, le, b) in
    let spent : c.loop-begun.budget + i.0 ≡ c.args.budget.now - n + (t + n) = omega (arith, le, b) in (
      n,
      c.loop-begun.invariant.few,
      small,
      i.5,
      (i.0, i.1, spent, i.3, c.if-budget-eq0.true, here_on (g.D.Sectors.sectors c.loop-begun.disk) c.loop-begun.machine (run x s i.0) i.3 (off_none _ _ _ c.off.ensures c.is_none.ensures c.loop-begun-test.true), (c.loop-begun.begun, i.4)),
    )

pub returns-clause-traced : goal.returns-clause-traced
returns-clause-traced g c =
    tracks_whole (g.D.Sectors.size c.args.disk.now) c.args.map.now c.args.machine.now c.loop-begun.machine (g.D.Sectors.sectors c.args.disk.now) (g.D.Sectors.sectors c.loop-begun.disk)
    (tracing c.args.tracer.now c.args.budget.now) (tracing c.loop-begun.tracer c.loop-begun.budget)
    c.loop-begun.invariant.tracks (c.loop-begun.skipped, c.begun_now.result)

pub returns-clause-ends : goal.returns-clause-ends
returns-clause-ends g c = λ s t h.
    let i = c.loop-begun.invariant.ran s t h in
    let x = outside_of c.args.machine.now.rows (g.D.Sectors.size c.args.disk.now) in
    let n : ℕ = c.loop-begun.skipped in
    let le = i.1 in
    let b = i.2 in
    let small : n ≤ c.args.budget.now = omega (arith, le, b) in
    let spent : c.loop-begun.budget + i.0 ≡ c.args.budget.now - n + (t + n) = omega (arith, le, b) in
    let o = off_some _ _ _ c.off.ensures c.is_none.ensures c.loop-begun-test.false in
    let w = told_as_some (g.D.Sectors.sectors c.loop-begun.disk) c.loop-begun.machine (run x s i.0) i.3 in
    let off : (run x s i.0).off ≡ Some o.0 = ap (λ (z : State). z.off) (sym w.2) ∙ o.1 in (
      n,
      c.loop-begun.invariant.few,
      small,
      i.5,
      (
        refl,
        (
          i.0,
          inr (record {
            from = i.1;
            none = none_begun x s (t + n) i.0 o.0 c.loop-begun.begun i.4 off;
            on = λ j a b. i.7 j (omega (arith, a)) b;
            off = λ none. absurd (let e : ◌≡◌ {A = Option ℕ} (Some o.0) None = sym off ∙ none in cc);
            shows = c.begun_now.ensures ∙ seen_note (g.D.Sectors.sectors c.loop-begun.disk) c.loop-begun.machine (run x s i.0) i.3;
          }),
          i.3,
          spent,
        ),
      ),
    )

pub returns-in_err-stepped-clause-ends : goal.returns-in_err-stepped-clause-ends
returns-in_err-stepped-clause-ends g c = λ s t h.
    let w = err_from_is_err_and c.from_residual.result c.from_residual.ensures.1 in
    let i = c.loop-begun.invariant.ran s t h in
    let x = outside_of c.args.machine.now.rows (g.D.Sectors.size c.args.disk.now) in
    let n : ℕ = c.loop-begun.skipped in
    let le = i.1 in
    let b = i.2 in
    let p = c.if-budget-eq0.false in
    let small : n ≤ c.args.budget.now = omega (arith, le, b) in
    let spent : c.loop-begun.budget - 1 + (i.0 + 1) ≡ c.args.budget.now - n + (t + n) = omega (arith, le, b, p) in (
      n,
      c.loop-begun.invariant.few,
      small,
      i.5,
      rw (w.1, w.2) (step_stops x s (t + n) i.0 (c.args.budget.now - n) (c.loop-begun.budget - 1) (state_seen (g.D.Sectors.sectors c.step_traced.new.disk) c.step_traced.new.machine)
          c.loop-begun.begun c.in_err-stepped.field-0.0 (λ e. c.in_err-stepped.ensures.no_limit (ap (λ f. Err f) e)) i.1 spent i.4 (here_on (g.D.Sectors.sectors c.loop-begun.disk) c.loop-begun.machine (run x s i.0) i.3 (off_none _ _ _ c.off.ensures c.is_none.ensures c.loop-begun-test.true))
          (left_at (g.D.Sectors.size c.loop-begun.disk) x (run x s i.0) (g.D.Sectors.sectors c.loop-begun.disk) (g.D.Sectors.sectors c.step_traced.new.disk) c.loop-begun.machine c.step_traced.new.machine c.in_err-stepped.field-0.0
          (ap₂ outside_of c.loop-begun.invariant.rows c.loop-begun.invariant.size) i.3 c.in_err-stepped.ensures.left)),
    )

pub returns-in_err-stepped-clause-traced : goal.returns-in_err-stepped-clause-traced
returns-in_err-stepped-clause-traced g c =
    let w = err_from_is_err_and c.from_residual.result c.from_residual.ensures.1 in
    let p = c.if-budget-eq0.false in
    rw (w.1, w.2) (tracks_stop (g.D.Sectors.size c.args.disk.now) c.args.map.now c.args.machine.now c.loop-begun.machine (g.D.Sectors.sectors c.args.disk.now) (g.D.Sectors.sectors c.loop-begun.disk)
    (tracing c.args.tracer.now c.args.budget.now) (tracing c.loop-begun.tracer c.loop-begun.budget)
    c.loop-begun.invariant.tracks (outside_of c.loop-begun.machine.rows (g.D.Sectors.size c.loop-begun.disk)) (ap₂ outside_of c.loop-begun.invariant.rows c.loop-begun.invariant.size)
    (tracing c.step_traced.new.tracer (c.loop-begun.budget - 1)) (omega (arith, p))
    c.in_err-stepped.field-0.0 (λ e. c.in_err-stepped.ensures.no_limit (ap (λ f. Err f) e)) c.in_err-stepped.ensures.traced)

-- where no user is traced the sink isn't called
pub returns-in_err-stepped-clause-silent : goal.returns-in_err-stepped-clause-silent
returns-in_err-stepped-clause-silent g c =
    let w = err_from_is_err_and c.from_residual.result c.from_residual.ensures.1 in
    λ none sink. c.in_err-stepped.ensures.silent (c.loop-begun.invariant.untraced none).0 (ap (λ f. Err f) (sym w.2 ∙ same_err (sym w.1 ∙ sink)))

pub returns-in-Some-clause-ends : goal.returns-in-Some-clause-ends
returns-in-Some-clause-ends g c = λ s t h.
    let i = c.loop-begun.invariant.ran s t h in
    let x = outside_of c.args.machine.now.rows (g.D.Sectors.size c.args.disk.now) in
    let n : ℕ = c.loop-begun.skipped in
    let r = opened g (goal.at.returns-in-Some-clause-ends g c).After-note s (t + n) i.0 i.1 i.3 i.4 in
    let o : Open x s (t + n) (suc i.0) c.in-Some.b = subst (Opened x s (t + n) (suc i.0)) c.in-Some.is r.1 in
    let le = i.1 in
    let b = i.2 in
    let p = c.if-budget-eq0.false in
    let small : n ≤ c.args.budget.now = omega (arith, le, b) in
    let spent : c.loop-begun.budget - 1 + suc i.0 ≡ c.args.budget.now - n + (t + n) = omega (arith, le, b, p) in (
      n,
      c.loop-begun.invariant.few,
      small,
      i.5,
      (refl, (suc i.0, inl (record { opened = o; rest = sym (seen_rests (g.D.Sectors.sectors c.step_traced.new.disk) c.step_traced.new.machine _ r.0) ∙ sym c.at_rest.ensures ∙ c.if-not-at_rest.false }), r.0, spent)),
    )

pub returns-in-Some-clause-traced : goal.returns-in-Some-clause-traced
returns-in-Some-clause-traced g c =
    tracks_whole (g.D.Sectors.size c.args.disk.now) c.args.map.now c.args.machine.now c.step_traced.new.machine (g.D.Sectors.sectors c.args.disk.now) (g.D.Sectors.sectors c.step_traced.new.disk) _ _
    (tracked g (goal.at.returns-in-Some-clause-traced g c).In_ok-stepped) (c.loop-begun.skipped, c.in-Some.b)

pub loop-begun-preserved : goal.loop-begun-preserved
loop-begun-preserved g c = record {
  less = let e = c.loop-begun.invariant.less in omega (arith, e);
  script = stepped_calls g (goal.at.loop-begun-preserved g c).In_ok-stepped;
  rows = c.in_ok-stepped.ensures.leaves.stays.rows ∙ c.loop-begun.invariant.rows;
  memory = c.in_ok-stepped.ensures.leaves.stays.memory ∙ c.loop-begun.invariant.memory;
  sector = c.in_ok-stepped.ensures.leaves.stays.sector;
  size = c.in_ok-stepped.ensures.leaves.stays.size ∙ c.loop-begun.invariant.size;
  time = let a = c.in_ok-stepped.ensures.time in let b = c.loop-begun.invariant.time in let p = c.if-budget-eq0.false in omega (arith, a, b, p);
  few = c.loop-begun.invariant.few;
  limit = let e = c.loop-begun.invariant.limit in omega (arith, e);
  fresh = λ l. absurd (omega (arith, l));
  ran = λ s t h.
      let i = c.loop-begun.invariant.ran s t h in
      let x = outside_of c.args.machine.now.rows (g.D.Sectors.size c.args.disk.now) in
      let n : ℕ = c.loop-begun.skipped in
      let r = opened g (goal.at.loop-begun-preserved g c).After-note s (t + n) i.0 i.1 i.3 i.4 in
      let le = i.1 in
      let b = i.2 in
      let p = c.if-budget-eq0.false in
      let o : Progress x s (t + n) (suc i.0) None = subst (Opened x s (t + n) (suc i.0)) c.in_default-begun.is r.1 in
      (suc i.0, omega (arith, le), omega (arith, b, p), r.0, subst (Progress x s (t + n) (suc i.0)) (sym c.in_default-begun.is) o, i.5, λ l. absurd (omega (arith, l)), was_on x s t i.0 (here_on (g.D.Sectors.sectors c.loop-begun.disk) c.loop-begun.machine (run x s i.0) i.3 (off_none _ _ _ c.off.ensures c.is_none.ensures c.loop-begun-test.true)) i.7);
  can = c.in_ok-stepped.ensures.leaves.trace.can;
  user = c.in_ok-stepped.ensures.leaves.trace.user ∙ c.loop-begun.invariant.user;
  untraced = λ e. let i = c.loop-begun.invariant.untraced e in let n = c.in_ok-stepped.ensures.leaves.trace.untraced i.0 in (n.0, n.1 ∙ i.1);
  tracks = tracked g (goal.at.loop-begun-preserved g c).In_ok-stepped;
}

-- with no user traced nothing is to be said of a trace
none_traced : (x : Environment) (m : Map) (start now : Option State) (before after : Tracing) → before.tracer ≡ None → Tracks x m start now before after
none_traced x m start now before after e = λ b. absurd (let h : ◌≡◌ {A = Option Tracer} None (Some (tracer_at x b.s b.u b.t b.traced.journal)) = sym e ∙ b.traced.keeps in cc)

-- what is kept of a trace stays through a stretch: none is made where a user is traced
tracks_passed : (x : Environment) (m : Map) (start : Option State) (before : Tracing) (told : Option (List (List ℕ))) (mid new : Held) (tracer old : Option Tracer) (budget left n : ℕ) →
    option_map (λ (k : Tracer). k.user) tracer ≡ option_map (λ (k : Tracer). k.user) old → before.tracer ≡ old → (IsSome tracer → (n ≡ 0) × (new ≡ mid)) → left + n ≡ budget →
    Tracks x m start (state_seen told mid) before (tracing tracer budget) → Tracks x m start (state_seen told new) before (tracing tracer left)
tracks_passed x m start before told mid new None None budget left n user was none spent so_far = none_traced x m start (state_seen told new) before (tracing None left) was
tracks_passed x m start before told mid new None (Some l) budget left n user was none spent so_far = absurd (cc)
tracks_passed x m start before told mid new (Some k) old budget left n user was none spent so_far =
    let w = none refl in
    let zero = w.0 in
    let same : budget ≡ left = omega (arith, spent, zero) in
    subst (λ (h : Held). Tracks x m start (state_seen told h) before (tracing (Some k) left)) (sym w.1)
    (subst (λ b. Tracks x m start (state_seen told mid) before (tracing (Some k) b)) same so_far)

can_pass : (m : Map) (words time words2 time2 count n : ℕ) (o : Option Tracer) → words2 ≡ words → time2 ≡ time + n → IfSome o (CanTrace m words time count) → IfSome o (CanTrace m words2 time2 count)
can_pass m words time words2 time2 count n None e f h = tt
can_pass m words time words2 time2 count n (Some k) e f h = record {
  some = h.some;
  user = h.user;
  few = let a = h.few in omega (arith, a, f);
  pages = h.pages;
  memory = let a = h.memory in omega (arith, a, e);
  small = h.small;
  all = h.all;
  room = h.room;
}

-- the machine was on at each step of turns that were passed
on_passed : (x : Environment) (s : State) (t u n : ℕ) → u ≡ t + n → SkipsTurns x s t n → (run x s t).off ≡ None → (j : ℕ) → t ≤ j → j < u → (run x s j).off ≡ None
on_passed x s t u n at skips on j a b = ⊎_elim
    (λ (lt : t < j). let i : ℕ = j - t - 1 in let e : t + suc (j - t - 1) ≡ j = omega (arith, lt) in subst (λ k. (run x s k).off ≡ None) e (skips (j - t - 1) (omega (arith, at, b, lt))).2)
    (λ (le : j ≤ t). let e : t ≡ j = omega (arith, a, le) in subst (λ k. (run x s k).off ≡ None) e on)
    (cases_lt t j)

pub loop-begun-preserved-then-skipped-limit : goal.loop-begun-preserved-then-skipped-limit
loop-begun-preserved-then-skipped-limit g c =
    let few = c.pass-skipped.ensures.few in
    let spent = c.pass-skipped.ensures.spent in
    let less = c.if-skipped-limit.true in
    let p = c.if-budget-eq0.false in
    let rest = c.pass-skipped.ensures.passes.rest in record {
      less = let e = c.loop-begun.invariant.less in omega (arith, e, p, spent);
      script = passed_calls g (goal.at.loop-begun-preserved-then-skipped-limit g c).In_ok-stepped c.pass-skipped.new.machine c.pass-skipped.new.budget c.pass-skipped.result c.pass-skipped.ensures.passes spent (λ s. (c.pass-skipped.ensures.traced s).0);
      rows = ap (λ (h : Held). h.rows) rest ∙ c.in_ok-stepped.ensures.leaves.stays.rows ∙ c.loop-begun.invariant.rows;
      memory = c.pass-skipped.ensures.memory ∙ c.in_ok-stepped.ensures.leaves.stays.memory ∙ c.loop-begun.invariant.memory;
      sector = subst (λ (h : Held). NamesSector (g.D.Sectors.size c.step_traced.new.disk) h.hardware.ports.pending) (sym rest) c.in_ok-stepped.ensures.leaves.stays.sector;
      size = c.in_ok-stepped.ensures.leaves.stays.size ∙ c.loop-begun.invariant.size;
      time = let a = c.in_ok-stepped.ensures.time in let b = c.loop-begun.invariant.time in let d = ap (λ (h : Held). h.time) rest in omega (arith, a, b, p, d, spent);
      few = let e = c.loop-begun.invariant.limit in omega (arith, e, less, few);
      limit = c.loop-begun.invariant.limit;
      fresh = λ l. c.loop-begun.invariant.fresh less;
      ran = λ s t h.
          let i = c.loop-begun.invariant.ran s t h in
          let x = outside_of c.args.machine.now.rows (g.D.Sectors.size c.args.disk.now) in
          let y = outside_of c.loop-begun.machine.rows (g.D.Sectors.size c.loop-begun.disk) in
          let same : y ≡ x = ap₂ outside_of c.loop-begun.invariant.rows c.loop-begun.invariant.size in
          let n : ℕ = c.loop-begun.skipped in
          let m : ℕ = c.pass-skipped.result in
          let kept : KeptUser c.step_traced.new.machine Kept = subst (KeptUser c.step_traced.new.machine) c.in-Kept.is c.in_ok-stepped.ensures.ends.kept in
          let began : StepBegan (g.D.Sectors.size c.loop-begun.disk) c.loop-begun.machine (g.D.Sectors.sectors c.loop-begun.disk) true =
          subst (λ (z : Stepped). StepBegan (g.D.Sectors.size c.loop-begun.disk) c.loop-begun.machine (g.D.Sectors.sectors c.loop-begun.disk) (turn_began z)) c.in-Kept.is c.in_ok-stepped.ensures.ends.began in
          let at : i.0 ≡ t + n = i.6 less in
          let r = skips_more x y s t n (n + 1) i.0 (g.D.Sectors.sectors c.loop-begun.disk) (g.D.Sectors.sectors c.step_traced.new.disk) c.loop-begun.machine c.step_traced.new.machine
          same at refl i.5 i.3 c.in_ok-stepped.ensures.ends.ran began kept.0 kept.1 in
          let next : suc i.0 ≡ t + (n + 1) = omega (arith, at) in
          let mid : outside_of c.step_traced.new.machine.rows (g.D.Sectors.size c.args.disk.now) ≡ x = ap (λ rows. outside_of rows (g.D.Sectors.size c.args.disk.now)) (c.in_ok-stepped.ensures.leaves.stays.rows ∙ c.loop-begun.invariant.rows) in
          let q = skips_passed x s t (n + 1) m (suc i.0) (g.D.Sectors.sectors c.step_traced.new.disk) c.step_traced.new.machine c.pass-skipped.new.machine (g.D.Sectors.size c.args.disk.now) mid next r.1 r.0 kept.0 c.pass-skipped.ensures.passes in
          let b = i.2 in
          let far : suc i.0 + m ≡ t + (n + 1 + m) = omega (arith, next) in
          let none : Progress x s (t + (n + 1 + m)) (suc i.0 + m) None = λ j lo hi. absurd (omega (arith, far, lo, hi)) in
          let on : (run x s t).off ≡ None = was_on x s t i.0 (here_on (g.D.Sectors.sectors c.loop-begun.disk) c.loop-begun.machine (run x s i.0) i.3 (off_none _ _ _ c.off.ensures c.is_none.ensures c.loop-begun-test.true)) i.7 t (omega arith) (omega (arith, at)) in
          (suc i.0 + m, omega (arith, far), omega (arith, b, p, spent), q.0, subst (Progress x s (t + (n + 1 + m)) (suc i.0 + m)) (sym (c.loop-begun.invariant.fresh less)) none, q.1, λ l. far, on_passed x s t (suc i.0 + m) (n + 1 + m) far q.1 on);
      can = can_pass c.args.map.now (length c.step_traced.new.machine.hardware.memory) c.step_traced.new.machine.time (length c.pass-skipped.new.machine.hardware.memory) c.pass-skipped.new.machine.time (g.D.Sectors.size c.step_traced.new.disk) c.pass-skipped.result
          c.step_traced.new.tracer c.pass-skipped.ensures.memory (ap (λ (h : Held). h.time) rest) c.in_ok-stepped.ensures.leaves.trace.can;
      user = c.in_ok-stepped.ensures.leaves.trace.user ∙ c.loop-begun.invariant.user;
      untraced = λ e. let i = c.loop-begun.invariant.untraced e in let n = c.in_ok-stepped.ensures.leaves.trace.untraced i.0 in (n.0, n.1 ∙ i.1);
      tracks = tracks_passed (outside_of c.args.machine.now.rows (g.D.Sectors.size c.args.disk.now)) c.args.map.now (state_seen (g.D.Sectors.sectors c.args.disk.now) c.args.machine.now)
          (tracing c.args.tracer.now c.args.budget.now) (g.D.Sectors.sectors c.step_traced.new.disk) c.step_traced.new.machine c.pass-skipped.new.machine c.step_traced.new.tracer c.args.tracer.now
          (c.loop-begun.budget - 1) c.pass-skipped.new.budget c.pass-skipped.result (c.in_ok-stepped.ensures.leaves.trace.user ∙ c.loop-begun.invariant.user) refl c.pass-skipped.ensures.traced spent
          (tracked g (goal.at.loop-begun-preserved-then-skipped-limit g c).In_ok-stepped);
    }

-- the machine isn't at rest, so the turn goes on
goes_on : (x : Environment) (s : State) (t u : ℕ) (b : Option Begun) → Opened x s t u b → rests (run x s u) ≡ false → Progress x s t u b
goes_on x s t u None o busy = o
goes_on x s t u (Some b) o busy = (o, busy)

-- a step in system mode, and a stretch behind it
pub loop-begun-preserved-then-not-at_rest : goal.loop-begun-preserved-then-not-at_rest
loop-begun-preserved-then-not-at_rest g c =
    let less = c.pass.ensures.spent in
    let p = c.if-budget-eq0.false in
    let m : ℕ = c.pass.result in
    let rest = c.pass.ensures.passes.rest in record {
      less = let e = c.loop-begun.invariant.less in omega (arith, e, p, less);
      script = passed_calls g (goal.at.loop-begun-preserved-then-not-at_rest g c).In_ok-stepped c.pass.new.machine c.pass.new.budget m c.pass.ensures.passes less (λ s. (c.pass.ensures.traced s).0);
      rows = ap (λ (h : Held). h.rows) rest ∙ c.in_ok-stepped.ensures.leaves.stays.rows ∙ c.loop-begun.invariant.rows;
      memory = c.pass.ensures.memory ∙ c.in_ok-stepped.ensures.leaves.stays.memory ∙ c.loop-begun.invariant.memory;
      sector = subst (λ (h : Held). NamesSector (g.D.Sectors.size c.step_traced.new.disk) h.hardware.ports.pending) (sym rest) c.in_ok-stepped.ensures.leaves.stays.sector;
      size = c.in_ok-stepped.ensures.leaves.stays.size ∙ c.loop-begun.invariant.size;
      time = let a = c.in_ok-stepped.ensures.time in let b = c.loop-begun.invariant.time in let d = ap (λ (h : Held). h.time) rest in omega (arith, a, b, p, d, less);
      few = c.loop-begun.invariant.few;
      limit = let e = c.loop-begun.invariant.limit in omega (arith, e);
      fresh = λ l. absurd (omega (arith, l));
      ran = λ s t h.
          let i = c.loop-begun.invariant.ran s t h in
          let x = outside_of c.args.machine.now.rows (g.D.Sectors.size c.args.disk.now) in
          let n : ℕ = c.loop-begun.skipped in
          let le = i.1 in
          let b = i.2 in
          let r = opened g (goal.at.loop-begun-preserved-then-not-at_rest g c).After-note s (t + n) i.0 i.1 i.3 i.4 in
          let busy = sym c.at_rest.ensures ∙ c.if-not-at_rest.true in
          let far = goes_on x s (t + n) (suc i.0) c.note.new.begun r.1 (sym (seen_rests (g.D.Sectors.sectors c.step_traced.new.disk) c.step_traced.new.machine _ r.0) ∙ busy) in
          let mid : outside_of c.step_traced.new.machine.rows (g.D.Sectors.size c.args.disk.now) ≡ x = ap (λ rows. outside_of rows (g.D.Sectors.size c.args.disk.now)) (c.in_ok-stepped.ensures.leaves.stays.rows ∙ c.loop-begun.invariant.rows) in
          let q = progress_passed x s (t + n) (suc i.0) m c.note.new.begun (g.D.Sectors.sectors c.step_traced.new.disk) c.step_traced.new.machine c.pass.new.machine (g.D.Sectors.size c.args.disk.now) mid r.0 busy far
          c.pass.ensures.passes in
          let on = was_on x s t i.0 (here_on (g.D.Sectors.sectors c.loop-begun.disk) c.loop-begun.machine (run x s i.0) i.3 (off_none _ _ _ c.off.ensures c.is_none.ensures c.loop-begun-test.true)) i.7 in
          (suc i.0 + m, omega (arith, le), omega (arith, b, p, less), q.0, q.1, i.5, λ l. absurd (omega (arith, l)), λ j from to. ⊎_elim (λ (lt : j < suc i.0). on j from lt) (λ (ge : suc i.0 ≤ j). q.2 j ge to) (cases_lt j (suc i.0)));
      can = can_pass c.args.map.now (length c.step_traced.new.machine.hardware.memory) c.step_traced.new.machine.time (length c.pass.new.machine.hardware.memory) c.pass.new.machine.time (g.D.Sectors.size c.step_traced.new.disk) m
          c.step_traced.new.tracer c.pass.ensures.memory (ap (λ (h : Held). h.time) rest) c.in_ok-stepped.ensures.leaves.trace.can;
      user = c.in_ok-stepped.ensures.leaves.trace.user ∙ c.loop-begun.invariant.user;
      untraced = λ e. let i = c.loop-begun.invariant.untraced e in let n = c.in_ok-stepped.ensures.leaves.trace.untraced i.0 in (n.0, n.1 ∙ i.1);
      tracks = tracks_passed (outside_of c.args.machine.now.rows (g.D.Sectors.size c.args.disk.now)) c.args.map.now (state_seen (g.D.Sectors.sectors c.args.disk.now) c.args.machine.now)
          (tracing c.args.tracer.now c.args.budget.now) (g.D.Sectors.sectors c.step_traced.new.disk) c.step_traced.new.machine c.pass.new.machine c.step_traced.new.tracer c.args.tracer.now
          (c.loop-begun.budget - 1) c.pass.new.budget m (c.in_ok-stepped.ensures.leaves.trace.user ∙ c.loop-begun.invariant.user) refl
          c.pass.ensures.traced less
          (tracked g (goal.at.loop-begun-preserved-then-not-at_rest g c).In_ok-stepped);
    }

-- the calls of all of them
pub returns-then-budget-eq0-clause-script : goal.returns-then-budget-eq0-clause-script
returns-then-budget-eq0-clause-script g c =
    as_made (outside_of c.args.machine.now.rows (g.D.Sectors.size c.args.disk.now)) g.O.Sink g.D.Sectors c.args.map.now c.args.machine.now c.args.tracer.now c.args.out.now c.args.disk.now {R = Unit {0}} (Ok tt) _ c.loop-begun.out c.loop-begun.disk
    (c.args.budget.now - c.loop-begun.budget) (c.args.budget.now - c.loop-begun.budget) refl refl c.loop-begun.invariant.script

pub returns-clause-script : goal.returns-clause-script
returns-clause-script g c =
    as_made (outside_of c.args.machine.now.rows (g.D.Sectors.size c.args.disk.now)) g.O.Sink g.D.Sectors c.args.map.now c.args.machine.now c.args.tracer.now c.args.out.now c.args.disk.now {R = Unit {0}} (Ok tt) _ c.loop-begun.out c.loop-begun.disk
    (c.args.budget.now - c.loop-begun.budget) (c.args.budget.now - c.loop-begun.budget) refl refl c.loop-begun.invariant.script

pub returns-in-Some-clause-script : goal.returns-in-Some-clause-script
returns-in-Some-clause-script g c =
    as_made (outside_of c.args.machine.now.rows (g.D.Sectors.size c.args.disk.now)) g.O.Sink g.D.Sectors c.args.map.now c.args.machine.now c.args.tracer.now c.args.out.now c.args.disk.now {R = Unit {0}} (Ok tt) _ c.step_traced.new.out c.step_traced.new.disk
    (c.args.budget.now - (c.loop-begun.budget - 1)) (c.args.budget.now - (c.loop-begun.budget - 1)) refl refl (stepped_calls g (goal.at.returns-in-Some-clause-script g c).In_ok-stepped)

pub returns-in_err-stepped-clause-script : goal.returns-in_err-stepped-clause-script
returns-in_err-stepped-clause-script g c =
    let w = err_from_is_err_and c.from_residual.result c.from_residual.ensures.1 in
    let p = c.if-budget-eq0.false in
    rw (w.1, w.2) (as_made (outside_of c.args.machine.now.rows (g.D.Sectors.size c.args.disk.now)) g.O.Sink g.D.Sectors c.args.map.now c.args.machine.now c.args.tracer.now c.args.out.now c.args.disk.now {R = Stepped} {T = ℕ × Begun} (Err c.in_err-stepped.field-0.0) (Err c.in_err-stepped.field-0.0)
    c.step_traced.new.out c.step_traced.new.disk (c.args.budget.now - (c.loop-begun.budget - 1)) (c.args.budget.now - (c.loop-begun.budget - 1)) refl refl
    (one_more g.O.Sink g.D.Sectors c.args.map.now c.args.machine.now c.loop-begun.machine c.args.tracer.now c.loop-begun.tracer c.args.out.now c.loop-begun.out c.step_traced.new.out c.args.disk.now c.loop-begun.disk c.step_traced.new.disk c.args.budget.now c.loop-begun.budget
    (Err c.in_err-stepped.field-0.0) c.loop-begun.invariant.less (omega (arith, p)) c.loop-begun.invariant.rows c.loop-begun.invariant.size c.loop-begun.invariant.script (λ s t h. let i = c.loop-begun.invariant.ran s t h in (i.0, i.2, i.3))
    (λ e. (c.loop-begun.invariant.untraced e).0) c.loop-begun.invariant.tracks c.in_err-stepped.ensures.script))
