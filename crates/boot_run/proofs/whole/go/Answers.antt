use Rattle.std.proofs.Common.{ℕ, ◌≡◌, ◌-◌, ◌≤◌, ◌++◌, [], None, Ok, Err, inl, inr, refl, sym, ◌∙◌, subst, arith}
use Rattle.std.specs.Prelude.{IsSome}
use Rattle.std.proofs.lemmas.Result.{err_from_is_err_and}
use Rattle.cvm_outside.specs.Script.{done}
use Rattle.cvm_outside.proofs.ScriptsFollow.{both}
use Rattle.boot_turns.specs.declared.answers.Turn.{Turn}
use Rattle.boot_turns.specs.LoopScripts.{SomeMake}
use Rattle.boot_turns.proofs.SomeCalls.{of_both}
use Rattle.boot_run.specs.AnyScripts.{TurnsUntold}
use Rattle.boot_run.specs.TurnCalls.{Around, run_around}
use Rattle.boot_run.proofs.AnyRunCalls.{any_first, any_next, any_failed, any_over, any_went}
use Rattle.boot_run.proofs.GoScripts.{KeepsMade, made_first, made_next, go_broke, go_came}
use Rattle.boot_run.proofs.LoopOverTurns.{keeps_first, keeps_next, go_failed, went_over, went, not_over, not_failed, was_over}
use Rattle.boot_run.proofs.UntoldTurns.{untold_first, untold_next, untold_came, untold_failed}
use Rattle.boot_run.proofs.whole.go.Goals as goal

pub loop-left-init : goal.loop-left-init
loop-left-init g c = record {
  kept = record { layer_is = refl; boot_is = refl; view_is = refl; rows_are = refl; count_is = refl; memory = refl };
  fault = c.requires.can.fine;
  size = refl;
  time = refl;
  few = omega arith;
  going = keeps_first (g.D.Sectors.size c.args.disk.now) c.args.run.now (run_around c.args.run.now (g.D.Sectors.sectors c.args.disk.now) c.args.budget.now) _ (omega arith);
  anyhow = any_first (g.D.Sectors.size c.args.disk.now) c.args.run.now (run_around c.args.run.now (g.D.Sectors.sectors c.args.disk.now) c.args.budget.now) _ (omega arith);
  still = λ _. (refl, refl);
  made = made_first g.O.Sink g.D.Sectors c.args.run.now c.args.out.now c.args.disk.now c.args.budget.now (c.args.turns - c.args.turns) c.args.run.now.machine.time (omega arith);
  some = ([], tt, λ shelf. done _);
  less = omega arith;
  untraced = λ e. e;
  untold = untold_first g.O.Sink g.D.Sectors c.args.run.now c.args.out.now c.args.disk.now (c.args.budget.now - c.args.budget.now) (omega arith);
}

pub returns-in_err-made-clause-ends : goal.returns-in_err-made-clause-ends
returns-in_err-made-clause-ends g c =
    let w = err_from_is_err_and c.from_residual.result c.from_residual.ensures.1 in
    let on = not_failed c.loop-left.run.ended c.in_err-made.field-0.0 (λ o. c.in_err-made.ensures.says.leaves.over c.loop-left.invariant.fault o) in
    let few = c.loop-left.invariant.few in
    go_failed c.turns_are_counted.ensures (g.D.Sectors.size c.args.disk.now) (g.D.Sectors.size c.loop-left.disk) c.args.run.now c.loop-left.run c.args.turns _ _ _ _ c.loop-left.left c.in_err-made.field-0.0 w.0 c.from_residual.result
    c.loop-left.invariant.kept c.loop-left.invariant.size (omega (arith, few)) on (c.in_err-made.ensures.says.ends c.loop-left.invariant.fault on) c.loop-left.invariant.going w.1 (sym w.2)

pub returns-then-made-eq0-clause-ends : goal.returns-then-made-eq0-clause-ends
returns-then-made-eq0-clause-ends g c =
    let over : IsSome c.loop-left.run.ended = was_over c.loop-left.run.ended c.in_ok-made.made c.in_ok-made.ensures.says.leaves.made.1 c.if-made-eq0.true in
    let st = c.in_ok-made.ensures.says.leaves.still (inr over) in
    let s0 = st.0 in
    let s1 = st.1 in
    let s2 = st.2 in
    let mid : Around = run_around c.loop-left.run (g.D.Sectors.sectors c.loop-left.disk) c.loop-left.budget in
    let after : Around = run_around c.turns.new.self (g.D.Sectors.sectors c.turns.new.disk) c.turns.new.budget in
    let same : mid ≡ after = cc in
    went_over c.machines_run.ensures (g.D.Sectors.size c.args.disk.now) c.args.run.now c.args.turns _ mid after (c.args.turns - c.loop-left.left) (omega arith) over same c.loop-left.invariant.going

pub loop-left-preserved : goal.loop-left-preserved
loop-left-preserved g c =
    let not_none = c.if-made-eq0.false in
    let some : 1 ≤ c.in_ok-made.made = omega (arith, not_none) in
    let on = not_over c.loop-left.run.ended c.in_ok-made.made c.in_ok-made.field-0-1 (λ o. c.in_ok-made.ensures.says.leaves.over c.loop-left.invariant.fault o) some in
    let kept = c.in_ok-made.ensures.says.leaves.kept in
    let was = c.loop-left.invariant.kept in
    let few = c.loop-left.invariant.few in
    let most = c.in_ok-made.ensures.says.leaves.made.0 in
    let spent = c.in_ok-made.ensures.says.leaves.spent in
    let less = c.turns.ensures.less in
    let was_less = c.loop-left.invariant.less in
    record {
      kept = record {
        layer_is = kept.layer_is ∙ was.layer_is;
        boot_is = kept.boot_is ∙ was.boot_is;
        view_is = kept.view_is ∙ was.view_is;
        rows_are = kept.rows_are ∙ was.rows_are;
        count_is = kept.count_is ∙ was.count_is;
        memory = kept.memory ∙ was.memory;
      };
      fault = c.in_ok-made.ensures.says.leaves.fine;
      size = c.in_ok-made.ensures.says.leaves.same_size ∙ c.loop-left.invariant.size;
      time = c.in_ok-made.ensures.says.leaves.spent ∙ c.loop-left.invariant.time;
      few = omega (arith, few);
      going = keeps_next (g.D.Sectors.size c.args.disk.now) (g.D.Sectors.size c.loop-left.disk) c.args.run.now c.loop-left.run _ _ _ (c.args.turns - c.loop-left.left) _ c.loop-left.left c.in_ok-made.made c.in_ok-made.field-0-1
          c.loop-left.invariant.kept c.loop-left.invariant.size on (c.in_ok-made.ensures.says.ends c.loop-left.invariant.fault on) (omega (arith, few, most)) c.loop-left.invariant.going;
      anyhow = any_next (g.D.Sectors.size c.args.disk.now) (g.D.Sectors.size c.loop-left.disk) c.args.run.now c.loop-left.run c.loop-left.invariant.kept c.loop-left.invariant.size _ _ _ (c.args.turns - c.loop-left.left) c.loop-left.left on
          c.loop-left.invariant.anyhow _ c.in_ok-made.made c.in_ok-made.field-0-1 (c.in_ok-made.ensures.says.any c.loop-left.invariant.fault on) (omega (arith, few, most));
      still = λ none. absurd (omega (arith, few, most, some, none));
      made = made_next g.O.Sink g.D.Sectors c.args.run.now c.loop-left.run c.args.out.now c.loop-left.out c.turns.new.out c.args.disk.now c.loop-left.disk c.turns.new.disk c.args.budget.now c.loop-left.budget (c.args.turns - c.loop-left.left)
          c.loop-left.invariant.kept c.loop-left.invariant.size c.loop-left.invariant.going c.loop-left.invariant.made c.machines_run.ensures (c.args.turns - (c.loop-left.left - c.in_ok-made.made)) c.in_ok-made.made (omega (arith, few, most)) some on
          (c.loop-left.budget - c.turns.new.budget) c.turns.new.self.machine.time (omega (arith, spent, less)) c.in_ok-made.ensures.script.boots.exact;
      some =
          let more = c.in_ok-made.ensures.script.boots.some c.loop-left.invariant.fault in (
            c.loop-left.invariant.some.0 ++ more.0,
            of_both c.loop-left.invariant.some.0 more.0 c.loop-left.invariant.some.1 more.1,
            λ shelf. both c.loop-left.invariant.some.0 more.0 _ _ _ None (c.loop-left.invariant.some.2 shelf) (more.2 shelf),
          );
      less = omega (arith, less, was_less);
      untraced = λ e. c.turns.ensures.untraced (c.loop-left.invariant.untraced e);
      untold = untold_next g.O.Sink g.D.Sectors c.args.run.now c.loop-left.run c.args.out.now c.loop-left.out c.turns.new.out c.args.disk.now c.loop-left.disk c.turns.new.disk c.args.budget.now c.loop-left.budget (c.args.turns - c.loop-left.left)
          c.loop-left.invariant.kept c.loop-left.invariant.size c.loop-left.invariant.less c.loop-left.invariant.untraced on c.loop-left.invariant.fault c.loop-left.invariant.anyhow c.loop-left.invariant.untold {T = Unit {0}}
          (c.loop-left.budget - c.turns.new.budget) (c.args.budget.now - c.turns.new.budget) (Ok tt) (omega (arith, less, was_less)) c.in_ok-made.ensures.script.untold;
    }

pub returns-clause-ends : goal.returns-clause-ends
returns-clause-ends g c =
    let none = c.loop-left-test.false in
    went (g.D.Sectors.size c.args.disk.now) c.args.run.now c.args.turns _ _ (c.args.turns - c.loop-left.left) (omega (arith, none)) c.loop-left.invariant.going

-- of any run
pub returns-in_err-made-clause-any : goal.returns-in_err-made-clause-any
returns-in_err-made-clause-any g c =
    let w = err_from_is_err_and c.from_residual.result c.from_residual.ensures.1 in
    let on = not_failed c.loop-left.run.ended c.in_err-made.field-0.0 (λ o. c.in_err-made.ensures.says.leaves.over c.loop-left.invariant.fault o) in
    let few = c.loop-left.invariant.few in
    any_failed (g.D.Sectors.size c.args.disk.now) (g.D.Sectors.size c.loop-left.disk) c.args.run.now c.loop-left.run c.loop-left.invariant.kept c.loop-left.invariant.size _ _ _ _ c.loop-left.left on c.loop-left.invariant.anyhow
    c.args.turns c.in_err-made.field-0.0 w.0 c.from_residual.result (c.in_err-made.ensures.says.any c.loop-left.invariant.fault on) (omega (arith, few)) w.1 (sym w.2)

pub returns-then-made-eq0-clause-any : goal.returns-then-made-eq0-clause-any
returns-then-made-eq0-clause-any g c =
    let over : IsSome c.loop-left.run.ended = was_over c.loop-left.run.ended c.in_ok-made.made c.in_ok-made.ensures.says.leaves.made.1 c.if-made-eq0.true in
    let st = c.in_ok-made.ensures.says.leaves.still (inr over) in
    let s0 = st.0 in
    let s1 = st.1 in
    let s2 = st.2 in
    let mid : Around = run_around c.loop-left.run (g.D.Sectors.sectors c.loop-left.disk) c.loop-left.budget in
    let after : Around = run_around c.turns.new.self (g.D.Sectors.sectors c.turns.new.disk) c.turns.new.budget in
    let same : mid ≡ after = cc in
    any_over (g.D.Sectors.size c.args.disk.now) c.args.run.now c.args.turns _ mid after (c.args.turns - c.loop-left.left) (omega arith) over same c.loop-left.invariant.anyhow

pub returns-clause-any : goal.returns-clause-any
returns-clause-any g c =
    let none = c.loop-left-test.false in
    any_went (g.D.Sectors.size c.args.disk.now) c.args.run.now c.args.turns _ _ (c.args.turns - c.loop-left.left) (omega (arith, none)) c.loop-left.invariant.anyhow

-- each exit's script
pub returns-in_err-made-clause-script : goal.returns-in_err-made-clause-script
returns-in_err-made-clause-script g c = record {
  boots = let w = err_from_is_err_and c.from_residual.result c.from_residual.ensures.1 in
      let on = not_failed c.loop-left.run.ended c.in_err-made.field-0.0 (λ o. c.in_err-made.ensures.says.leaves.over c.loop-left.invariant.fault o) in
      let few = c.loop-left.invariant.few in
      let spent = c.in_err-made.ensures.says.leaves.spent in
      let less = c.turns.ensures.less in
      rw (w.1, w.2) (go_broke g.O.Sink g.D.Sectors c.args.run.now c.loop-left.run c.turns.new.self c.args.out.now c.loop-left.out c.turns.new.out c.args.disk.now c.loop-left.disk c.turns.new.disk c.args.budget.now c.loop-left.budget c.turns.new.budget (c.args.turns - c.loop-left.left) c.args.turns
      c.loop-left.invariant.kept c.loop-left.invariant.size c.machines_run.ensures c.turns_are_counted.ensures c.loop-left.invariant.going c.loop-left.invariant.made c.loop-left.invariant.some c.loop-left.invariant.fault {R = ℕ × Turn} {T = Unit {0}} c.in_err-made.field-0.0 c.loop-left.left
      (omega (arith, few)) on (c.in_err-made.ensures.says.ends c.loop-left.invariant.fault on) (c.loop-left.budget - c.turns.new.budget) (omega (arith, spent, less)) c.in_err-made.ensures.script.boots);
  untold = let w = err_from_is_err_and c.from_residual.result c.from_residual.ensures.1 in
      let on = not_failed c.loop-left.run.ended c.in_err-made.field-0.0 (λ o. c.in_err-made.ensures.says.leaves.over c.loop-left.invariant.fault o) in
      let few = c.loop-left.invariant.few in
      let less = c.turns.ensures.less in
      let was_less = c.loop-left.invariant.less in
      let before : Around = run_around c.args.run.now (g.D.Sectors.sectors c.args.disk.now) c.args.budget.now in
      let mid : Around = run_around c.loop-left.run (g.D.Sectors.sectors c.loop-left.disk) c.loop-left.budget in
      let after : Around = run_around c.turns.new.self (g.D.Sectors.sectors c.turns.new.disk) c.turns.new.budget in
      rw (w.1, w.2) (untold_failed g.O.Sink g.D.Sectors c.args.run.now c.turns.new.self c.args.out.now c.turns.new.out c.args.disk.now c.turns.new.disk c.args.budget.now c.turns.new.budget c.args.turns c.turns_are_counted.ensures (omega (arith, less, was_less))
      (Unit {0}) c.in_err-made.field-0.0
      (untold_next g.O.Sink g.D.Sectors c.args.run.now c.loop-left.run c.args.out.now c.loop-left.out c.turns.new.out c.args.disk.now c.loop-left.disk c.turns.new.disk c.args.budget.now c.loop-left.budget (c.args.turns - c.loop-left.left)
      c.loop-left.invariant.kept c.loop-left.invariant.size c.loop-left.invariant.less c.loop-left.invariant.untraced on c.loop-left.invariant.fault c.loop-left.invariant.anyhow c.loop-left.invariant.untold {T = Unit {0}}
      (c.loop-left.budget - c.turns.new.budget) (c.args.budget.now - c.turns.new.budget) (Err c.in_err-made.field-0.0) (omega (arith, less, was_less)) c.in_err-made.ensures.script.untold)
      (any_failed (g.D.Sectors.size c.args.disk.now) (g.D.Sectors.size c.loop-left.disk) c.args.run.now c.loop-left.run c.loop-left.invariant.kept c.loop-left.invariant.size before mid after
      (c.args.turns - c.loop-left.left) c.loop-left.left on c.loop-left.invariant.anyhow
      c.args.turns c.in_err-made.field-0.0 c.in_err-made.field-0.0 (Err c.in_err-made.field-0.0) (c.in_err-made.ensures.says.any c.loop-left.invariant.fault on) (omega (arith, few)) refl refl));
}

pub returns-then-made-eq0-clause-script : goal.returns-then-made-eq0-clause-script
returns-then-made-eq0-clause-script g c = record {
  boots = let over : IsSome c.loop-left.run.ended = was_over c.loop-left.run.ended c.in_ok-made.made c.in_ok-made.ensures.says.leaves.made.1 c.if-made-eq0.true in
      let st = c.in_ok-made.ensures.says.leaves.still (inr over) in
      let so : KeepsMade g.O.Sink g.D.Sectors c.args.run.now c.args.out.now c.args.disk.now c.turns.new.out c.turns.new.disk c.args.budget.now (c.args.turns - c.loop-left.left) c.turns.new.self.machine.time =
      rw (st.0, st.2, st.3) c.loop-left.invariant.made in
      let some : SomeMake {T = Unit {0}} g.O.Sink g.D.Sectors (c.args.out.now, c.args.disk.now) (c.turns.new.out, c.turns.new.disk) (Ok tt) = rw (st.2, st.3) c.loop-left.invariant.some in
      go_came g.O.Sink g.D.Sectors c.args.run.now c.turns.new.self c.args.out.now c.turns.new.out c.args.disk.now c.turns.new.disk c.args.budget.now c.turns.new.budget (c.args.turns - c.loop-left.left) c.args.turns c.machines_run.ensures c.turns_are_counted.ensures so some
      (returns-then-made-eq0-clause-ends g c) (λ none. inr (subst IsSome (c.loop-left.invariant.still none).1 over));
  untold = let over : IsSome c.loop-left.run.ended = was_over c.loop-left.run.ended c.in_ok-made.made c.in_ok-made.ensures.says.leaves.made.1 c.if-made-eq0.true in
      let st = c.in_ok-made.ensures.says.leaves.still (inr over) in
      let less = c.turns.ensures.less in
      let was_less = c.loop-left.invariant.less in
      let so : TurnsUntold {T = Unit {0}} g.O.Sink g.D.Sectors c.args.run.now (c.args.out.now, c.args.disk.now) (c.turns.new.out, c.turns.new.disk) (c.args.budget.now - c.turns.new.budget) (Ok tt) =
      rw (st.1, st.2, st.3) c.loop-left.invariant.untold in
      untold_came g.O.Sink g.D.Sectors c.args.run.now c.turns.new.self c.args.out.now c.turns.new.out c.args.disk.now c.turns.new.disk c.args.budget.now c.turns.new.budget c.args.turns c.turns_are_counted.ensures (omega (arith, less, was_less)) so
      (returns-then-made-eq0-clause-any g c);
}

pub returns-clause-script : goal.returns-clause-script
returns-clause-script g c = record {
  boots = let none = c.loop-left-test.false in
      go_came g.O.Sink g.D.Sectors c.args.run.now c.loop-left.run c.args.out.now c.loop-left.out c.args.disk.now c.loop-left.disk c.args.budget.now c.loop-left.budget (c.args.turns - c.loop-left.left) c.args.turns c.machines_run.ensures c.turns_are_counted.ensures
      c.loop-left.invariant.made c.loop-left.invariant.some (returns-clause-ends g c) (λ zero. inl (omega (arith, zero, none), (c.loop-left.invariant.still zero).0));
  untold = untold_came g.O.Sink g.D.Sectors c.args.run.now c.loop-left.run c.args.out.now c.loop-left.out c.args.disk.now c.loop-left.disk c.args.budget.now c.loop-left.budget c.args.turns c.turns_are_counted.ensures c.loop-left.invariant.less
      c.loop-left.invariant.untold (returns-clause-any g c);
}
