use Rattle.std.proofs.Common.{Ok, rules, refl, sym, ◌∙◌, subst}
use Rattle.boot_run.specs.RunCalls.{all_calls, end_by, RestCalls}
use Rattle.boot_run.proofs.AnyEnding.{fault_unsaved}
use Rattle.boot_run.proofs.RunsAreClosed.{rest_fails, rest_closes}
use Rattle.boot_run.proofs.ReadingCalls.{of_run_too, calls_keep_size}
use Rattle.boot_run.specs.AnyScripts.{RestUntold}
use Rattle.boot_run.proofs.UntoldEnds.{rest_broken, rest_closed}
use Rattle.boot_run.proofs.whole.run_to_end.Goals as goal

-- the disk is as large as before the turns
pub close-requires : goal.close-requires
close-requires g c = record {
  can = record {
    disk = calls_keep_size {T = Unit {0}} g.O.Sink g.D.Sectors c.args.out.now c.go.new.out c.args.disk.now c.go.new.disk (Ok tt) c.in-Ok.ensures.script.boots.some ∙ c.requires.can.disk ∙ sym c.in-Ok.ensures.kept.count_is;
    fine = search rules;
  };
}

pub returns-in-Err-clause-ends : goal.returns-in-Err-clause-ends
returns-in-Err-clause-ends g c = fault_unsaved c.in-Err.fault c.end_at.result c.end_at.ensures

-- the calls
pub returns-in-Ok-clause-script : goal.returns-in-Ok-clause-script
returns-in-Ok-clause-script g c = record {
  boots = rest_closes all_calls end_by (λ st. refl) (λ v r p t off st all report is. is) g.O.Sink g.D.Sectors c.args.run.now c.go.new.run c.args.out.now c.go.new.out c.close.new.out c.args.disk.now c.go.new.disk c.close.new.disk c.args.limits.turns c.args.limits.steps c.go.new.budget c.machines_run.ensures c.turns_are_counted.ensures c.close.result
      c.in-Ok.ensures.kept (calls_keep_size {T = Unit {0}} g.O.Sink g.D.Sectors c.args.out.now c.go.new.out c.args.disk.now c.go.new.disk (Ok tt) c.in-Ok.ensures.script.boots.some) c.in-Ok.ensures.ends c.in-Ok.ensures.script.boots c.close.ensures.script.exact (c.close.ensures.script.some.0, of_run_too c.close.ensures.script.some.0 c.close.ensures.script.some.1, c.close.ensures.script.some.2);
  untold = rest_closed g.O.Sink g.D.Sectors c.args.run.now c.go.new.run c.args.out.now c.go.new.out c.close.new.out c.args.disk.now c.go.new.disk c.close.new.disk c.args.limits.turns c.args.limits.steps c.go.new.budget c.turns_are_counted.ensures c.close.result
      c.in-Ok.ensures.any c.in-Ok.ensures.script.untold c.close.ensures.script c.close.ensures.faulted c.close.ensures.in_steps c.close.ensures.ends;
}

pub returns-in-Err-clause-script : goal.returns-in-Err-clause-script
returns-in-Err-clause-script g c = record {
  boots = subst (RestCalls g.O.Sink g.D.Sectors c.args.run.now c.args.limits.turns c.args.limits.steps (c.args.out.now, c.args.disk.now) (c.go.new.out, c.go.new.disk)) (sym c.end_at.ensures)
      (rest_fails all_calls end_by (λ st. refl) (λ v r p t off st all report is. is) {T = Unit {0}} g.O.Sink g.D.Sectors c.args.run.now c.go.new.run c.args.out.now c.go.new.out c.args.disk.now c.go.new.disk c.args.limits.turns c.args.limits.steps c.go.new.budget c.machines_run.ensures c.turns_are_counted.ensures c.in-Err.fault
      c.in-Err.ensures.ends c.in-Err.ensures.script.boots);
  untold = subst (RestUntold g.O.Sink g.D.Sectors c.args.run.now c.args.limits.turns c.args.limits.steps (c.args.out.now, c.args.disk.now) (c.go.new.out, c.go.new.disk)) (sym c.end_at.ensures)
      (rest_broken (Unit {0}) g.O.Sink g.D.Sectors c.args.run.now c.go.new.run c.args.out.now c.go.new.out c.args.disk.now c.go.new.disk c.args.limits.turns c.args.limits.steps c.go.new.budget c.turns_are_counted.ensures c.in-Err.fault
      c.in-Err.ensures.any c.in-Err.ensures.script.untold);
}
