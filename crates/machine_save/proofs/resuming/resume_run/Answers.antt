use Rattle.std.proofs.Common.{◌-◌, subst}
use Rattle.std.proofs.lemmas.Result.{err_from_is_err_and}
use Rattle.boot_run.specs.AnyScripts.{RestUntold}
use Rattle.boot_run.specs.RunCalls.{RestCalls}
use Rattle.machine_save.proofs.ResumeCalls.{refused_script, resumed_script}
use Rattle.machine_save.proofs.ResumeAnswers.{answers_so, done_few, refused_so}
use Rattle.machine_save.proofs.resuming.resume_run.Goals as goal

pub returns-in_err-run-clause-answers : goal.returns-in_err-run-clause-answers
returns-in_err-run-clause-answers g c =
    let w = err_from_is_err_and c.from_residual.result c.from_residual.ensures.1 in
    rw (w.1, w.2) (refused_so c.args.setup.layer c.args.setup.boot c.args.setup.schedule c.args.limits.turns (g.D.Sectors.size c.args.disk.now) c.args.bytes.now c.in_err-run.field-0.0 c.in_err-run.ensures.is)

pub run_on-requires-clause-done : goal.run_on-requires-clause-done
run_on-requires-clause-done g c = done_few c.args.setup.layer c.args.setup.boot c.args.setup.schedule c.args.limits.turns (g.D.Sectors.size c.args.disk.now) c.args.bytes.now c.in_ok-run.run' c.in_ok-run.ensures.is

pub returns-clause-answers : goal.returns-clause-answers
returns-clause-answers g c = answers_so c.args.setup.layer c.args.setup.boot c.args.setup.schedule c.args.limits.turns (g.D.Sectors.size c.args.disk.now) c.args.bytes.now c.in_ok-run.run' c.run_on.result c.in_ok-run.ensures.is

-- the calls
pub returns-in_err-run-clause-script : goal.returns-in_err-run-clause-script
returns-in_err-run-clause-script g c =
    let w = err_from_is_err_and c.from_residual.result c.from_residual.ensures.1 in
    rw (w.1, w.2)
    (refused_script (record { machines = c.machines_run.ensures; counts = c.turns_are_counted.ensures; steady = c.a_new_machine_is_steady.ensures; takes = c.saved_runs_are_taken_up.ensures })
    g.O.Sink g.D.Sectors c.args.setup.layer c.args.setup.boot c.args.setup.schedule c.args.limits.turns c.args.limits.steps c.args.bytes.now c.args.out.now c.args.out.now c.args.disk.now c.resume.new.disk
    c.boots_hold.ensures.boots c.boots_hold.ensures.taken_up c.are_in_range.ensures.turns c.are_in_range.ensures.steps c.in_err-run.field-0.0 c.in_err-run.ensures.is c.resume.ensures.same)

pub returns-clause-script : goal.returns-clause-script
returns-clause-script g c =
    resumed_script (record { machines = c.machines_run.ensures; counts = c.turns_are_counted.ensures; steady = c.a_new_machine_is_steady.ensures; takes = c.saved_runs_are_taken_up.ensures })
    g.O.Sink g.D.Sectors c.args.setup.layer c.args.setup.boot c.args.setup.schedule c.args.limits.turns c.args.limits.steps c.args.bytes.now c.args.out.now c.run_on.new.out c.args.disk.now c.run_on.new.disk
    c.boots_hold.ensures.boots c.boots_hold.ensures.taken_up c.are_in_range.ensures.turns c.are_in_range.ensures.steps c.in_ok-run.run' c.run_on.result c.in_ok-run.ensures.is
    (subst (λ d. RestCalls g.O.Sink g.D.Sectors c.in_ok-run.run' (c.args.limits.turns - c.in_ok-run.run'.turns) (c.args.limits.steps - c.in_ok-run.run'.machine.time) (c.args.out.now, d) (c.run_on.new.out, c.run_on.new.disk) c.run_on.result)
    c.resume.ensures.same c.run_on.ensures.script.boots)
    (subst (λ d. RestUntold g.O.Sink g.D.Sectors c.in_ok-run.run' (c.args.limits.turns - c.in_ok-run.run'.turns) (c.args.limits.steps - c.in_ok-run.run'.machine.time) (c.args.out.now, d) (c.run_on.new.out, c.run_on.new.disk) c.run_on.result)
    c.resume.ensures.same c.run_on.ensures.script.untold)
