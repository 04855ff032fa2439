use Rattle.std.proofs.Common.{refl}
use Rattle.run_scripts.specs.Command.{resume}
use Rattle.cvm_outside.specs.Outside.{files as told_files, output, drive}
use Rattle.cvm_shell.specs.Stages.{resumable_for}
use Rattle.cvm_shell.specs.Views.{save_view}
use Rattle.cvm_shell.proofs.GotCalls.{beside}
use Rattle.cvm_shell.proofs.StageEnds.{found, run_done, stop_done}
use Rattle.cvm_shell.proofs.ResumedCalls.{taken_words, taken_short}
use Rattle.cvm_shell.proofs.StartAnswers.{told_disk}
use Rattle.cvm_shell.proofs.resuming.run_resume.Goals as goal

pub returns-in-Ok : goal.returns-in-Ok
returns-in-Ok g c = λ words is.
    let sink = output g.O.Sink c.args.out.now in
    let disk = drive g.D.Sectors c.args.disk.now in
    run_done words (resume (save_view c.args.resume.now)) (resumable_for (save_view c.args.resume.now) c.in-Ok.resumable) (beside sink disk (told_files g.S.Shelf c.args.shelf.now))
    (beside sink disk (told_files g.S.Shelf c.plan_resume.new.shelf)) _ _ is
    c.in-Ok.ensures.comes (taken_words _ _ _ _) (taken_short _ _ _ _)
    (found words (resume (save_view c.args.resume.now)) (beside sink disk (told_files g.S.Shelf c.args.shelf.now)) is c.in-Ok.ensures.bytes
    (told_disk (g.D.Sectors.size c.args.disk.now) (g.D.Sectors.sectors c.args.disk.now) (g.met.D.Sectors.sized c.args.disk.now) c.are_sectors.ensures))
    (c.in-Ok.ensures.gets sink disk) refl (c.resume_system.ensures (told_files g.S.Shelf c.plan_resume.new.shelf))

pub returns-in-Err : goal.returns-in-Err
returns-in-Err g c = λ words is.
    let sink = output g.O.Sink c.args.out.now in
    let disk = drive g.D.Sectors c.args.disk.now in
    stop_done g.O.Sink words (resume (save_view c.args.resume.now)) disk (told_files g.S.Shelf c.args.shelf.now) (told_files g.S.Shelf c.plan_resume.new.shelf) c.in-Err.stop _ _ _ is
    (c.in-Err.ensures.gets sink disk) c.in-Err.ensures.comes c.say_stop.ensures
