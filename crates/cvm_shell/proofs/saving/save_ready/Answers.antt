use Rattle.std.proofs.Common.{refl}
use Rattle.run_scripts.specs.declared.session.StartPoint.TheVariants.{Loaded}
use Rattle.run_scripts.specs.Command.{save_session}
use Rattle.cvm_shell.specs.Views.{save_view}
use Rattle.cvm_shell.proofs.StartAnswers.{same_need, answers_from}
use Rattle.cvm_shell.proofs.SystemCalls.{pasts_from}
use Rattle.cvm_shell.proofs.SavedCalls.{ready_calls}
use Rattle.cvm_shell.proofs.saving.save_ready.Goals as goal

pub returns-clause-answers : goal.returns-clause-answers
returns-clause-answers g c =
    let r = c.args.saveable.ready in
    let e = c.save_run.ensures.loads in
    answers_from r (save_session (save_view c.args.save.now)) Loaded (same_need r.boot r.schedule) refl c.save_run.result (g.D.Sectors.size c.args.disk.now) e.refused e.loaded

pub returns-clause-calls : goal.returns-clause-calls
returns-clause-calls g c = ready_calls g.S.Shelf g.O.Sink g.D.Sectors c.args.saveable.ready (save_view c.args.save.now) c.save_run.result _ _ c.save_run.ensures.script

pub returns-clause-pasts : goal.returns-clause-pasts
returns-clause-pasts g c = let r = c.args.saveable.ready in pasts_from r (save_session (save_view c.args.save.now)) Loaded (same_need r.boot r.schedule) refl _ _ c.pasts_exist.ensures.loaded
