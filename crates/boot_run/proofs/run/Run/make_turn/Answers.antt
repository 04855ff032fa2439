use Rattle.std.proofs.Common.{◌≡◌, ◌∙◌, ℕ, Ok, Err, ap, sym, refl}
use Rattle.std.proofs.lemmas.Result.{err_from_is_err_and}
use Rattle.boot_run.specs.Shown.{end_of_next}
use Rattle.boot_run.specs.TurnParts.{count_on}
use Rattle.boot_turns.specs.declared.answers.Turn.{Turn}
use Rattle.boot_turns.specs.declared.completion.Begun.{Begun}
use Rattle.boot_run.proofs.StepScripts.{turn_calls}
use Rattle.boot_run.proofs.TurnMade.{is_false, is_true, step_is, row_is, made_err, made}
use Rattle.boot_run.proofs.run.Run.make_turn.Goals as goal

pub returns-in_err-skipped-clause-ends : goal.returns-in_err-skipped-clause-ends
returns-in_err-skipped-clause-ends g c =
    let h = err_from_is_err_and c.from_residual.result c.from_residual.ensures.1 in
    made_err c.loops_advance.ensures c.loops_make_turns.ensures c.args.self.now _ c.self.view_is (g.D.Sectors.size c.args.disk.now) _ c.args.most (g.D.Sectors.sectors c.args.disk.now) (g.D.Sectors.sectors c.complete.new.disk) c.args.budget.now c.complete.new.budget
    c.self.inside.layout.map c.self.invariant.2.map c.in_err-skipped.field-0.0 h.0 c.from_residual.result h.1 (sym h.2) c.in_err-skipped.ensures.ends c.in_err-skipped.ensures.traced c.in_err-skipped.ensures.silent refl

pub returns-then-not-begun-clause-ends : goal.returns-then-not-begun-clause-ends
returns-then-not-begun-clause-ends g c =
    let on : c.saturating_add-turn.result ≡ count_on c.self.inside.turns c.in_ok-skipped.skipped = c.saturating_add-turn.ensures ∙ ap (count_on c.self.inside.turns) c.from.ensures in
    made c.loops_advance.ensures c.loops_make_turns.ensures c.args.self.now _ c.self.view_is (g.D.Sectors.size c.args.disk.now) _ c.args.most (g.D.Sectors.sectors c.args.disk.now) (g.D.Sectors.sectors c.complete.new.disk) c.args.budget.now c.complete.new.budget
    c.self.inside.layout.map c.self.invariant.2.map c.in_ok-skipped.skipped _ c.in_ok-skipped.begun _ c.in_ok-skipped.ensures.ends c.in_ok-skipped.ensures.traced refl
    (record {
      turns = c.saturating_add-self-inside.ensures ∙ ap (λ i. count_on i 1) on;
      current = c.word-self-inside.ensures;
      ended = c.ended_by-self-inside.ensures ∙ ap end_of_next c.seen_next-next.ensures;
      is = step_is (count_on c.self.inside.turns c.in_ok-skipped.skipped) c.self.inside.current c.in_ok-skipped.begun _ (is_false c.in_ok-skipped.begun.dispatched c.if-not-begun.true);
    })

pub returns-clause-ends : goal.returns-clause-ends
returns-clause-ends g c =
    let on : c.saturating_add-turn.result ≡ count_on c.self.inside.turns c.in_ok-skipped.skipped = c.saturating_add-turn.ensures ∙ ap (count_on c.self.inside.turns) c.from.ensures in
    made c.loops_advance.ensures c.loops_make_turns.ensures c.args.self.now _ c.self.view_is (g.D.Sectors.size c.args.disk.now) _ c.args.most (g.D.Sectors.sectors c.args.disk.now) (g.D.Sectors.sectors c.complete.new.disk) c.args.budget.now c.complete.new.budget
    c.self.inside.layout.map c.self.invariant.2.map c.in_ok-skipped.skipped _ c.in_ok-skipped.begun _ c.in_ok-skipped.ensures.ends c.in_ok-skipped.ensures.traced refl
    (record {
      turns = c.saturating_add-self-inside.ensures ∙ ap (λ i. count_on i 1) on;
      current = c.word-self-inside.ensures;
      ended = c.ended_by-self-inside.ensures ∙ ap end_of_next c.seen_next-next.ensures;
      is = row_is c.saturating_add-turn.result _ c.self.inside.current c.in_ok-skipped.begun c.seen_next-next.result _ on c.seen_next-next.ensures (is_true c.in_ok-skipped.begun.dispatched c.if-not-begun.false);
    })

-- the calls of a turn are those of its steps
pub returns-in_err-skipped-clause-script : goal.returns-in_err-skipped-clause-script
returns-in_err-skipped-clause-script g c =
    let h = err_from_is_err_and c.from_residual.result c.from_residual.ensures.1 in
    rw (h.1, h.2) (turn_calls {R = ℕ × Begun} {T = ℕ × Turn} g.O.Sink g.D.Sectors c.args.self.now _ c.self.inside.layout.map c.args.out.now c.complete.new.out c.args.disk.now c.complete.new.disk _ (Err c.in_err-skipped.field-0.0) (Err c.in_err-skipped.field-0.0) refl
    c.self.view_is c.self.invariant.2.map c.in_err-skipped.ensures.script)

pub returns-then-not-begun-clause-script : goal.returns-then-not-begun-clause-script
returns-then-not-begun-clause-script g c =
    turn_calls {R = ℕ × Begun} {T = ℕ × Turn} g.O.Sink g.D.Sectors c.args.self.now _ c.self.inside.layout.map c.args.out.now c.complete.new.out c.args.disk.now c.complete.new.disk _ (Ok (c.in_ok-skipped.skipped, c.in_ok-skipped.begun)) _ refl
    c.self.view_is c.self.invariant.2.map c.in_ok-skipped.ensures.script

pub returns-clause-script : goal.returns-clause-script
returns-clause-script g c =
    turn_calls {R = ℕ × Begun} {T = ℕ × Turn} g.O.Sink g.D.Sectors c.args.self.now _ c.self.inside.layout.map c.args.out.now c.complete.new.out c.args.disk.now c.complete.new.disk _ (Ok (c.in_ok-skipped.skipped, c.in_ok-skipped.begun)) _ refl
    c.self.view_is c.self.invariant.2.map c.in_ok-skipped.ensures.script
