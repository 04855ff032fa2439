use Rattle.std.proofs.Common.{inl, subst, sym, Ok, Err, List, ℕ}
use Rattle.machine_save.specs.ResumeCalls.{ResumeScript}
use Rattle.machine_save.specs.ResumeRun.{ResumeAnswers}
use Rattle.cvm_shell.specs.declared.boot.Stop.{Stop}
use Rattle.cvm_shell.specs.Does.{DoesPlan, SaysStop}
use Rattle.cvm_shell.specs.Stages.{resumable_for}
use Rattle.cvm_shell.specs.Views.{save_view}
use Rattle.cvm_shell.proofs.ResumedCalls.{taken_does, untaken_does, stay_both}
use Rattle.cvm_shell.proofs.resuming.resume_system.Goals as goal

pub returns-in-Ok : goal.returns-in-Ok
returns-in-Ok g c = λ shelf.
    let r = c.args.resumable in
    let v = save_view c.args.resume.now in
    let P : List ℕ → Type 0 = λ bs. ResumeAnswers r.ready.boot r.ready.schedule v.boot.turns (g.D.Sectors.size c.args.disk.now) bs (Ok c.in-Ok.end) in
    let Q : List ℕ → Type 0 = λ bs. ResumeScript g.O.Sink g.D.Sectors r.ready.boot r.ready.schedule v.boot.turns v.boot.steps bs (c.args.out.now, c.args.disk.now) (c.resume_run.new.out, c.resume_run.new.disk) (Ok c.in-Ok.end) in
    inl (subst (DoesPlan (resumable_for v r) _ _) (sym c.status_of.ensures)
    (taken_does g.O.Sink g.D.Sectors r v c.args.out.now c.resume_run.new.out c.args.disk.now c.resume_run.new.disk shelf c.in-Ok.end (subst P c.deref.ensures.value c.in-Ok.ensures.answers)
    (subst Q c.deref.ensures.value c.in-Ok.ensures.script)))

pub returns : goal.returns
returns g c = λ shelf.
    let r = c.args.resumable in
    let v = save_view c.args.resume.now in
    let P : List ℕ → Type 0 = λ bs. ResumeAnswers r.ready.boot r.ready.schedule v.boot.turns (g.D.Sectors.size c.args.disk.now) bs (Err c.in-Err.fault) in
    let still = stay_both c.args.out.now c.resume_run.new.out c.args.disk.now c.resume_run.new.disk c.in-Err.ensures.script.none in
    let Q : Stop → Type 0 = λ s. SaysStop g.O.Sink s c.resume_run.new.out c.say_stop.new.out c.say_stop.result in
    untaken_does g.O.Sink g.D.Sectors r v c.args.out.now c.resume_run.new.out c.say_stop.new.out c.args.disk.now c.resume_run.new.disk shelf c.say_stop.result still.0 still.1
    c.in-Err.fault (subst P c.deref.ensures.value c.in-Err.ensures.answers) (subst Q c.from.ensures c.say_stop.ensures)
