use Rattle.std.proofs.Common.{Ok, rules, refl, sym, ◌∙◌, subst}
use Rattle.boot_run.specs.RunEnds.{EndsUnsaved}
use Rattle.boot_run.proofs.AnyEnding.{fault_unsaved}
use Rattle.boot_run.proofs.WhereSavesStop.{stopped}
use Rattle.boot_run.specs.SaveCalls.{unless_on, stop_by, ToStopCalls}
use Rattle.boot_run.proofs.RunsAreClosed.{rest_fails, rest_closes}
use Rattle.boot_run.proofs.SaveScripts.{stop_parts}
use Rattle.boot_run.proofs.ReadingCalls.{calls_keep_size}
use Rattle.boot_run.proofs.saving.run_to_stop.Goals as goal

-- the disk is as large as before the turns
pub stop-requires : goal.stop-requires
stop-requires g c = record {
  can = record {
    disk = calls_keep_size {T = Unit {0}} g.O.Sink g.D.Sectors c.args.out.now c.go.new.out c.args.disk.now c.go.new.disk (Ok tt) c.in-Ok.ensures.script.boots.some ∙ c.requires.can.disk ∙ sym c.in-Ok.ensures.kept.count_is;
    fine = search rules;
  };
}

pub returns-in-Ok-clause-stops : goal.returns-in-Ok-clause-stops
returns-in-Ok-clause-stops g c =
    stopped c.machines_run.ensures c.turns_are_counted.ensures g.D.Sectors.size g.D.Sectors.sectors c.args.run.now c.go.new.run c.stop.new.run
    c.args.disk.now c.go.new.disk c.stop.new.disk c.args.out.now c.go.new.out c.stop.new.out c.args.limits.turns c.args.limits.steps c.go.new.budget c.in-Ok.ensures.kept c.in-Ok.ensures.ends c.stop.result c.stop.ensures.stays

-- a run that fails doesn't stop
pub returns-in-Err-clause-stops : goal.returns-in-Err-clause-stops
returns-in-Err-clause-stops g c = λ s late held old k t wanted total q now p view starts some more sum ready there is. absurd (subst EndsUnsaved is (fault_unsaved c.in-Err.fault c.end_at.result c.end_at.ensures))

pub returns-in-Err-clause-unput : goal.returns-in-Err-clause-unput
returns-in-Err-clause-unput g c = λ is. subst EndsUnsaved is (fault_unsaved c.in-Err.fault c.end_at.result c.end_at.ensures)

-- the calls
pub returns-in-Ok-clause-script : goal.returns-in-Ok-clause-script
returns-in-Ok-clause-script g c =
    rest_closes unless_on stop_by (λ st. refl) stop_parts g.O.Sink g.D.Sectors c.args.run.now c.go.new.run c.args.out.now c.go.new.out c.stop.new.out c.args.disk.now c.go.new.disk c.stop.new.disk c.args.limits.turns c.args.limits.steps c.go.new.budget c.machines_run.ensures c.turns_are_counted.ensures c.stop.result
    c.in-Ok.ensures.kept (calls_keep_size {T = Unit {0}} g.O.Sink g.D.Sectors c.args.out.now c.go.new.out c.args.disk.now c.go.new.disk (Ok tt) c.in-Ok.ensures.script.boots.some) c.in-Ok.ensures.ends c.in-Ok.ensures.script.boots c.stop.ensures.script.exact c.stop.ensures.script.some

pub returns-in-Err-clause-script : goal.returns-in-Err-clause-script
returns-in-Err-clause-script g c =
    subst (ToStopCalls g.O.Sink g.D.Sectors c.args.run.now c.args.limits.turns c.args.limits.steps (c.args.out.now, c.args.disk.now) (c.go.new.out, c.go.new.disk)) (sym c.end_at.ensures)
    (rest_fails unless_on stop_by (λ st. refl) stop_parts {T = Unit {0}} g.O.Sink g.D.Sectors c.args.run.now c.go.new.run c.args.out.now c.go.new.out c.args.disk.now c.go.new.disk c.args.limits.turns c.args.limits.steps c.go.new.budget c.machines_run.ensures c.turns_are_counted.ensures c.in-Err.fault
    c.in-Err.ensures.ends c.in-Err.ensures.script.boots)
