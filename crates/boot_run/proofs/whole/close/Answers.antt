use Rattle.std.proofs.Common.{◌≡◌, Option, Some, None, Err, false, sym, ap, ◌∙◌}
use Rattle.boot_turns.specs.declared.answers.RunFault.{RunFault}
use Rattle.boot_turns.specs.declared.answers.RunFault.TheVariants.{StepLimit}
use Rattle.boot_run.specs.Shown.{has_faulted}
use Rattle.boot_run.specs.AnyRun.{is_faulted}
use Rattle.boot_run.proofs.AnyEnding.{fault_is, fault_unsaved}
use Rattle.boot_run.proofs.RunsAreClosed.{closed_none, closed_done, closed_fails}
use Rattle.boot_run.proofs.whole.close.Goals as goal

pub returns-in-Err-clause-faulted : goal.returns-in-Err-clause-faulted
returns-in-Err-clause-faulted g c =
    let other : has_faulted c.args.run.now.ended ≡ false = ap has_faulted (sym c.ended.ensures) ∙ sym c.has_faulted.ensures ∙ c.if-has_faulted.false in
    other ∙ sym (ap is_faulted c.end_at.ensures ∙ fault_is c.in-Err.fault)

pub returns-in-Err-clause-ends : goal.returns-in-Err-clause-ends
returns-in-Err-clause-ends g c = fault_unsaved c.in-Err.fault c.end_at.result c.end_at.ensures

-- the calls
pub returns-then-has_faulted-clause-script : goal.returns-then-has_faulted-clause-script
returns-then-has_faulted-clause-script g c =
    closed_none g.O.Sink g.D.Sectors c.args.run.now c.args.out.now c.args.disk.now (ap has_faulted (sym c.ended.ensures) ∙ sym c.has_faulted.ensures ∙ c.if-has_faulted.true)

pub returns-in-Ok-clause-script : goal.returns-in-Ok-clause-script
returns-in-Ok-clause-script g c =
    let other : has_faulted c.args.run.now.ended ≡ false = ap has_faulted (sym c.ended.ensures) ∙ sym c.has_faulted.ensures ∙ c.if-has_faulted.false in
    closed_done g.O.Sink g.D.Sectors c.args.run.now c.args.out.now c.args.disk.now c.report.new.out c.report.new.disk c.requires.can.fine other {T = Unit {0}} tt c.in-Ok.ensures.script

pub returns-in-Err-clause-script : goal.returns-in-Err-clause-script
returns-in-Err-clause-script g c =
    let other : has_faulted c.args.run.now.ended ≡ false = ap has_faulted (sym c.ended.ensures) ∙ sym c.has_faulted.ensures ∙ c.if-has_faulted.false in
    closed_fails g.O.Sink g.D.Sectors c.args.run.now c.args.out.now c.args.disk.now c.report.new.out c.report.new.disk c.requires.can.fine other {T = Unit {0}} c.in-Err.fault
    (λ e. (let h : ◌≡◌ {A = Option RunFault} None (Some StepLimit) = sym c.requires.can.fine ∙ c.in-Err.ensures.rest.limit (ap (λ f. Err f) e) in cc)) c.end_at.result c.end_at.ensures c.in-Err.ensures.script
