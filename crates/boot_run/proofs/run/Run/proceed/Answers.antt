use Rattle.std.proofs.Common.{ℕ, ◌-◌, Some, None, Ok, Err, sym, refl, arith}
use Rattle.boot_turns.specs.declared.answers.Turn.{Turn}
use Rattle.std.proofs.lemmas.Result.{err_from_is_err_and}
use Rattle.cvm_outside.specs.Script.{TheSink}
use Rattle.boot_turns.specs.declared.answers.RunFault.TheVariants.{Sink}
use Rattle.boot_run.proofs.AnyRunCalls.{any_cut_before, any_broke_off, any_made, any_cut_after, any_passed}
use Rattle.boot_run.proofs.GoesOnWithRun.{cut_before, broke_off, went, cut_behind, passed}
use Rattle.boot_run.specs.TurnParts.{rows_after}
use Rattle.boot_run.proofs.ScriptsOfTurns.{begun_cut, broken_calls, made_calls}
use Rattle.boot_run.proofs.UntoldTurns.{untold_traced, untold_broke, untold_made}
use Rattle.boot_run.proofs.run.Run.proceed.Goals as goal

pub returns-in_err-put_before-clause-ends : goal.returns-in_err-put_before-clause-ends
returns-in_err-put_before-clause-ends g c = λ _.
    let h = err_from_is_err_and c.from_residual.result c.from_residual.ensures.1 in
    passed (g.D.Sectors.size c.args.disk.now) c.args.self.now c.args.most _ _ Sink h.0 c.from_residual.result h.1 (sym h.2)
    (cut_before c.args.self.now c.args.self.now (g.D.Sectors.size c.args.disk.now) c.args.most (g.D.Sectors.sectors c.args.disk.now) (g.D.Sectors.sectors c.args.disk.now) c.args.budget.now c.args.budget.now c.put_before.ensures.views c.machines_run.ensures)

pub returns-in_err-made-clause-ends : goal.returns-in_err-made-clause-ends
returns-in_err-made-clause-ends g c = λ _.
    let h = err_from_is_err_and c.from_residual-in_err-made.result c.from_residual-in_err-made.ensures.1 in
    passed (g.D.Sectors.size c.args.disk.now) c.args.self.now c.args.most _ _ c.in_err-made.field-0.0 h.0 c.from_residual-in_err-made.result h.1 (sym h.2)
    (broke_off c.args.self.now c.make_turn.new.self (g.D.Sectors.size c.args.disk.now) c.args.most (g.D.Sectors.sectors c.args.disk.now) (g.D.Sectors.sectors c.make_turn.new.disk) c.args.budget.now c.make_turn.new.budget c.put_before.ensures.views c.machines_run.ensures
    c.make_turn.ensures.makes.spent
    c.in_err-made.field-0.0 c.in_err-made.ensures.ends.0 c.in_err-made.ensures.ends.1)

pub returns-in_err-put_after-clause-ends : goal.returns-in_err-put_after-clause-ends
returns-in_err-put_after-clause-ends g c = λ _.
    let h = err_from_is_err_and c.from_residual-in_err-put_after.result c.from_residual-in_err-put_after.ensures.1 in
    let turns = c.in_ok-made.ensures.ends in
    passed (g.D.Sectors.size c.args.disk.now) c.args.self.now c.args.most _ _ Sink h.0 c.from_residual-in_err-put_after.result h.1 (sym h.2)
    (cut_behind (g.D.Sectors.size c.args.disk.now) c.args.self.now c.make_turn.new.self c.args.most _ (g.D.Sectors.sectors c.make_turn.new.disk) c.make_turn.new.budget c.in_ok-made.made c.in_ok-made.answer
    (went c.args.self.now c.make_turn.new.self (g.D.Sectors.size c.args.disk.now) c.args.most (g.D.Sectors.sectors c.args.disk.now) (g.D.Sectors.sectors c.make_turn.new.disk) c.args.budget.now c.make_turn.new.budget c.put_before.ensures.views c.machines_run.ensures
    c.make_turn.ensures.makes.spent
    c.in_ok-made.made turns.0 turns.1 c.in_ok-made.answer turns.2 turns.3 turns.4 c.requires.can.steps c.make_turn.ensures.makes.fault (λ e. (c.make_turn.ensures.untraced e).0)))

pub returns-clause-ends : goal.returns-clause-ends
returns-clause-ends g c = λ _.
    let turns = c.in_ok-made.ensures.ends in
    went c.args.self.now c.make_turn.new.self (g.D.Sectors.size c.args.disk.now) c.args.most (g.D.Sectors.sectors c.args.disk.now) (g.D.Sectors.sectors c.make_turn.new.disk) c.args.budget.now c.make_turn.new.budget c.put_before.ensures.views c.machines_run.ensures
    c.make_turn.ensures.makes.spent
    c.in_ok-made.made turns.0 turns.1 c.in_ok-made.answer turns.2 turns.3 turns.4 c.requires.can.steps c.make_turn.ensures.makes.fault (λ e. (c.make_turn.ensures.untraced e).0)

-- of any run
pub returns-in_err-put_before-clause-any : goal.returns-in_err-put_before-clause-any
returns-in_err-put_before-clause-any g c = λ _ e.
    let h = err_from_is_err_and c.from_residual.result c.from_residual.ensures.1 in
    any_passed (g.D.Sectors.size c.args.disk.now) c.args.self.now c.args.most _ _ Sink h.0 c.from_residual.result h.1 (sym h.2)
    (any_cut_before c.args.self.now c.args.self.now (g.D.Sectors.size c.args.disk.now) c.args.most (g.D.Sectors.sectors c.args.disk.now) (g.D.Sectors.sectors c.args.disk.now) c.args.budget.now c.args.budget.now)

pub returns-in_err-made-clause-any : goal.returns-in_err-made-clause-any
returns-in_err-made-clause-any g c = λ _ e.
    let h = err_from_is_err_and c.from_residual-in_err-made.result c.from_residual-in_err-made.ensures.1 in
    any_passed (g.D.Sectors.size c.args.disk.now) c.args.self.now c.args.most _ _ c.in_err-made.field-0.0 h.0 c.from_residual-in_err-made.result h.1 (sym h.2)
    (any_broke_off c.args.self.now c.make_turn.new.self (g.D.Sectors.size c.args.disk.now) c.args.most (g.D.Sectors.sectors c.args.disk.now) (g.D.Sectors.sectors c.make_turn.new.disk) c.args.budget.now c.make_turn.new.budget c.in_err-made.field-0.0 c.in_err-made.ensures.ends.0)

pub returns-in_err-put_after-clause-any : goal.returns-in_err-put_after-clause-any
returns-in_err-put_after-clause-any g c = λ _ e.
    let h = err_from_is_err_and c.from_residual-in_err-put_after.result c.from_residual-in_err-put_after.ensures.1 in
    let turns = c.in_ok-made.ensures.ends in
    any_passed (g.D.Sectors.size c.args.disk.now) c.args.self.now c.args.most _ _ Sink h.0 c.from_residual-in_err-put_after.result h.1 (sym h.2)
    (any_cut_after c.args.self.now c.make_turn.new.self (g.D.Sectors.size c.args.disk.now) c.args.most (g.D.Sectors.sectors c.args.disk.now) (g.D.Sectors.sectors c.make_turn.new.disk) c.args.budget.now c.make_turn.new.budget c.in_ok-made.made turns.0 turns.1 c.in_ok-made.answer turns.2 turns.3 turns.4 c.in_ok-made.ensures.makes.made.1)

pub returns-clause-any : goal.returns-clause-any
returns-clause-any g c = λ _ e.
    let turns = c.in_ok-made.ensures.ends in
    any_made c.args.self.now c.make_turn.new.self (g.D.Sectors.size c.args.disk.now) c.args.most (g.D.Sectors.sectors c.args.disk.now) (g.D.Sectors.sectors c.make_turn.new.disk) c.args.budget.now c.make_turn.new.budget c.in_ok-made.made turns.0 turns.1 c.in_ok-made.answer turns.2 turns.3 turns.4

-- the calls: those before the turns, in their steps and behind them
pub returns-in_err-put_before-clause-script : goal.returns-in_err-put_before-clause-script
returns-in_err-put_before-clause-script g c = record {
  boots = let h = err_from_is_err_and c.from_residual.result c.from_residual.ensures.1 in
      rw (h.1, h.2) (begun_cut g.O.Sink g.D.Sectors c.args.self.now c.args.self.now c.args.out.now c.put_before.new.out c.put_before.new.out c.put_before.new.out c.args.disk.now c.args.disk.now c.args.budget.now c.args.budget.now c.args.most
      c.put_before.ensures.views c.machines_run.ensures c.traces_grow.ensures c.journal_rows_follow.ensures c.in_err-put_before.ensures.first.0 c.in_err-put_before.ensures.first.1
      c.in_err-put_before.ensures.put
      (c.args.budget.now - c.args.budget.now) (omega arith));
  untold = untold_traced g.O.Sink g.D.Sectors c.args.self.now c.args.self.now c.args.out.now c.put_before.new.out c.put_before.new.out c.put_before.new.out c.args.disk.now c.args.disk.now c.args.budget.now c.args.budget.now c.args.most
      (c.args.budget.now - c.args.budget.now) c.from_residual.result c.in_err-put_before.ensures.first.0;
}

pub returns-in_err-made-clause-script : goal.returns-in_err-made-clause-script
returns-in_err-made-clause-script g c = record {
  boots = let h = err_from_is_err_and c.from_residual-in_err-made.result c.from_residual-in_err-made.ensures.1 in
      rw (h.1, h.2) (broken_calls g.O.Sink g.D.Sectors c.args.self.now c.make_turn.new.self c.args.out.now c.put_before.new.out c.make_turn.new.out c.make_turn.new.out c.args.disk.now c.make_turn.new.disk c.args.budget.now c.make_turn.new.budget c.args.most
      c.put_before.ensures.views c.machines_run.ensures c.traces_grow.ensures c.journal_rows_follow.ensures c.in_ok-put_before.ensures.put
      (c.args.budget.now - c.make_turn.new.budget) refl c.in_err-made.field-0.0 c.in_err-made.ensures.script {T = ℕ × Turn} c.in_err-made.ensures.ends.0);
  untold = let h = err_from_is_err_and c.from_residual-in_err-made.result c.from_residual-in_err-made.ensures.1 in
      rw (h.1, h.2) (untold_broke g.O.Sink g.D.Sectors c.args.self.now c.make_turn.new.self c.args.out.now c.put_before.new.out c.make_turn.new.out c.make_turn.new.out c.args.disk.now c.make_turn.new.disk c.args.budget.now c.make_turn.new.budget c.args.most
      c.in_ok-put_before.ensures.put (c.args.budget.now - c.make_turn.new.budget)
      (ℕ × Turn) c.in_err-made.field-0.0 c.in_err-made.ensures.script);
}

pub returns-in_err-put_after-clause-script : goal.returns-in_err-put_after-clause-script
returns-in_err-put_after-clause-script g c = record {
  boots = let h = err_from_is_err_and c.from_residual-in_err-put_after.result c.from_residual-in_err-put_after.ensures.1 in
      let turns = c.in_ok-made.ensures.ends in
      rw (h.1, h.2) (made_calls g.O.Sink g.D.Sectors c.args.self.now c.make_turn.new.self c.args.out.now c.put_before.new.out c.make_turn.new.out c.put_after.new.out c.args.disk.now c.make_turn.new.disk c.args.budget.now c.make_turn.new.budget c.args.most
      c.put_before.ensures.views c.machines_run.ensures c.traces_grow.ensures c.journal_rows_follow.ensures c.in_ok-put_before.ensures.put
      (c.args.budget.now - c.make_turn.new.budget) refl (c.in_ok-made.made, c.in_ok-made.answer) c.in_ok-made.ensures.script c.in_ok-made.made c.in_ok-made.answer (Some TheSink)
      c.in_err-put_after.ensures.put
      (λ e. (c.make_turn.ensures.untraced e).0) (λ e _. c.in_err-put_after.ensures.dispatch (c.make_turn.ensures.untraced e).0) (λ i _. c.in_err-put_after.ensures.faulted i) {T = ℕ × Turn} (Err Sink) refl
      (went c.args.self.now c.make_turn.new.self (g.D.Sectors.size c.args.disk.now) c.args.most (g.D.Sectors.sectors c.args.disk.now) (g.D.Sectors.sectors c.make_turn.new.disk) c.args.budget.now c.make_turn.new.budget c.put_before.ensures.views c.machines_run.ensures
      c.make_turn.ensures.makes.spent
      c.in_ok-made.made turns.0 turns.1 c.in_ok-made.answer turns.2 turns.3 turns.4 c.requires.can.steps c.make_turn.ensures.makes.fault (λ e. (c.make_turn.ensures.untraced e).0)));
  untold = let h = err_from_is_err_and c.from_residual-in_err-put_after.result c.from_residual-in_err-put_after.ensures.1 in
      let turns = c.in_ok-made.ensures.ends in
      rw (h.1, h.2) (untold_made g.O.Sink g.D.Sectors c.args.self.now c.make_turn.new.self c.args.out.now c.put_before.new.out c.make_turn.new.out c.put_after.new.out c.args.disk.now c.make_turn.new.disk c.args.budget.now c.make_turn.new.budget c.args.most
      c.in_ok-put_before.ensures.put (c.args.budget.now - c.make_turn.new.budget) {R = ℕ × Turn} {T = ℕ × Turn}
      (c.in_ok-made.made, c.in_ok-made.answer) c.in_ok-made.ensures.script refl c.make_turn.ensures.less c.in_ok-made.made c.in_ok-made.answer c.in_ok-made.ensures.makes.made.0
      (any_made c.args.self.now c.make_turn.new.self (g.D.Sectors.size c.args.disk.now) c.args.most (g.D.Sectors.sectors c.args.disk.now) (g.D.Sectors.sectors c.make_turn.new.disk) c.args.budget.now c.make_turn.new.budget c.in_ok-made.made turns.0 turns.1 c.in_ok-made.answer turns.2 turns.3 turns.4)
      (rows_after c.make_turn.new.self.tracer c.make_turn.new.self.ended c.in_ok-made.answer) (Err Sink)
      c.in_err-put_after.ensures.put);
}

pub returns-clause-script : goal.returns-clause-script
returns-clause-script g c = record {
  boots = let turns = c.in_ok-made.ensures.ends in
      made_calls g.O.Sink g.D.Sectors c.args.self.now c.make_turn.new.self c.args.out.now c.put_before.new.out c.make_turn.new.out c.put_after.new.out c.args.disk.now c.make_turn.new.disk c.args.budget.now c.make_turn.new.budget c.args.most
      c.put_before.ensures.views c.machines_run.ensures c.traces_grow.ensures c.journal_rows_follow.ensures c.in_ok-put_before.ensures.put
      (c.args.budget.now - c.make_turn.new.budget) refl (c.in_ok-made.made, c.in_ok-made.answer) c.in_ok-made.ensures.script c.in_ok-made.made c.in_ok-made.answer None
      c.in_ok-put_after.ensures.put
      (λ e. (c.make_turn.ensures.untraced e).0) (λ e ne. absurd (ne refl)) (λ i ne. absurd (ne refl)) {T = ℕ × Turn} (Ok (c.in_ok-made.made, c.in_ok-made.answer)) refl
      (went c.args.self.now c.make_turn.new.self (g.D.Sectors.size c.args.disk.now) c.args.most (g.D.Sectors.sectors c.args.disk.now) (g.D.Sectors.sectors c.make_turn.new.disk) c.args.budget.now c.make_turn.new.budget c.put_before.ensures.views c.machines_run.ensures
      c.make_turn.ensures.makes.spent
      c.in_ok-made.made turns.0 turns.1 c.in_ok-made.answer turns.2 turns.3 turns.4 c.requires.can.steps c.make_turn.ensures.makes.fault (λ e. (c.make_turn.ensures.untraced e).0));
  untold = let turns = c.in_ok-made.ensures.ends in
      untold_made g.O.Sink g.D.Sectors c.args.self.now c.make_turn.new.self c.args.out.now c.put_before.new.out c.make_turn.new.out c.put_after.new.out c.args.disk.now c.make_turn.new.disk c.args.budget.now c.make_turn.new.budget c.args.most
      c.in_ok-put_before.ensures.put (c.args.budget.now - c.make_turn.new.budget) {R = ℕ × Turn} {T = ℕ × Turn}
      (c.in_ok-made.made, c.in_ok-made.answer) c.in_ok-made.ensures.script refl c.make_turn.ensures.less c.in_ok-made.made c.in_ok-made.answer c.in_ok-made.ensures.makes.made.0
      (any_made c.args.self.now c.make_turn.new.self (g.D.Sectors.size c.args.disk.now) c.args.most (g.D.Sectors.sectors c.args.disk.now) (g.D.Sectors.sectors c.make_turn.new.disk) c.args.budget.now c.make_turn.new.budget c.in_ok-made.made turns.0 turns.1 c.in_ok-made.answer turns.2 turns.3 turns.4)
      (rows_after c.make_turn.new.self.tracer c.make_turn.new.self.ended c.in_ok-made.answer) (Ok (c.in_ok-made.made, c.in_ok-made.answer))
      c.in_ok-put_after.ensures.put;
}
