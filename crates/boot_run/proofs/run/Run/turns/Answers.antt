use Rattle.std.proofs.Common.{ℕ, arith, ◌-◌, Some, Ok, Err, rules, ap, sym, ◌∙◌, subst}
use Rattle.std.specs.Prelude.{IsSome}
use Rattle.boot_turns.specs.declared.answers.Turn.{Turn}
use Rattle.boot_turns.specs.declared.answers.Turn.TheVariants.{Over}
use Rattle.boot_run.specs.LoadEnds.{Kept}
use Rattle.boot_run.specs.TurnCalls.{run_around}
use Rattle.boot_run.proofs.AnyRunCalls.{any_kept}
use Rattle.boot_run.proofs.GoesOnWithRun.{runs_faulted, runs_after}
use Rattle.boot_run.proofs.ScriptsOfTurns.{faulted_calls, over_calls}
use Rattle.boot_run.proofs.UntoldTurns.{untold_faulted, untold_over}
use Rattle.boot_run.proofs.run.Run.turns.Goals as goal

-- nothing is touched
pub returns-in-Some : goal.returns-in-Some
returns-in-Some g c = record {
  says = record {
    leaves = search rules;
    ends = search rules;
    any = search rules;
  };
  script = record {
    boots = faulted_calls g.O.Sink g.D.Sectors c.args.self.now c.args.out.now c.args.out.now c.args.disk.now c.args.disk.now c.args.budget.now (c.args.budget.now - c.args.budget.now) (Err c.in-Some.fault)
        c.in-Some.fault (ap (λ (q : Kept _). q.fault) (sym c.self.view_is) ∙ c.in-Some.is);
    untold = untold_faulted {T = ℕ × Turn} g.O.Sink g.D.Sectors c.args.self.now c.args.out.now c.args.out.now c.args.disk.now c.args.disk.now (c.args.budget.now - c.args.budget.now) (Err c.in-Some.fault)
        c.in-Some.fault (ap (λ (q : Kept _). q.fault) (sym c.self.view_is) ∙ c.in-Some.is);
  };
  untraced = λ e. e;
  less = omega arith;
}

pub returns-then-is_some : goal.returns-then-is_some
returns-then-is_some g c = record {
  says = record {
    leaves = search rules;
    ends = search rules;
    any = search rules;
  };
  script = record {
    boots = over_calls g.O.Sink g.D.Sectors c.args.self.now c.args.out.now c.args.disk.now c.args.budget.now (c.args.budget.now - c.args.budget.now) (0, Over)
        (subst (λ (q : Kept _). IsSome q.ended) c.self.view_is (sym c.is_some.ensures ∙ c.if-is_some.true));
    untold = untold_over {T = ℕ × Turn} g.O.Sink g.D.Sectors c.args.self.now c.args.out.now c.args.out.now c.args.disk.now c.args.disk.now (c.args.budget.now - c.args.budget.now) (Ok (0, Over))
        (subst (λ (q : Kept _). IsSome q.ended) c.self.view_is (sym c.is_some.ensures ∙ c.if-is_some.true));
  };
  untraced = λ e. e;
  less = omega arith;
}

pub returns-in-Ok : goal.returns-in-Ok
returns-in-Ok g c = record {
  says = record {
    leaves = search rules;
    ends = λ f e. c.in-Ok.ensures.ends f;
    any = c.in-Ok.ensures.any;
  };
  script = c.in-Ok.ensures.script;
  untraced = c.proceed.ensures.untraced;
  less = c.proceed.ensures.less;
}

pub returns-in-Err : goal.returns-in-Err
returns-in-Err g c = record {
  says = record {
    leaves = search rules;
    ends = λ f e.
        runs_faulted (g.D.Sectors.size c.args.disk.now) c.args.self.now c.args.most _ _ c.in-Err.fault (Some c.in-Err.fault)
        (runs_after _ _ c.self-2.view_is (g.D.Sectors.size c.args.disk.now) c.args.self.now c.args.most _ (g.D.Sectors.sectors c.proceed.new.disk) c.proceed.new.budget (Err c.in-Err.fault) (c.in-Err.ensures.ends f));
    any = λ f e.
        any_kept _ _ c.self-2.view_is (g.D.Sectors.size c.args.disk.now) c.args.self.now c.args.most (run_around c.args.self.now (g.D.Sectors.sectors c.args.disk.now) c.args.budget.now)
        (g.D.Sectors.sectors c.proceed.new.disk) c.proceed.new.budget c.in-Err.fault (c.in-Err.ensures.any f e);
  };
  script = c.in-Err.ensures.script;
  untraced = search rules;
  less = c.proceed.ensures.less;
}
