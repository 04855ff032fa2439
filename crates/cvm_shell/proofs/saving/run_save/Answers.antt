use Rattle.run_scripts.specs.Command.{save}
use Rattle.cvm_shell.specs.Stages.{saveable_for}
use Rattle.cvm_shell.specs.Views.{save_view}
use Rattle.cvm_outside.specs.Outside.{files as told_files, output, drive}
use Rattle.cvm_shell.proofs.GotCalls.{beside}
use Rattle.cvm_shell.proofs.StageEnds.{found, plan_taken, run_done, stop_done}
use Rattle.cvm_shell.proofs.StartAnswers.{told_disk}
use Rattle.cvm_shell.proofs.saving.run_save.Goals as goal

pub returns-in-Ok : goal.returns-in-Ok
returns-in-Ok g c = λ words is.
    let sink = output g.O.Sink c.args.out.now in
    let disk = drive g.D.Sectors c.args.disk.now in
    run_done words (save (save_view c.args.save.now)) (saveable_for (save_view c.args.save.now) c.in-Ok.saveable) (beside sink disk (told_files g.S.Shelf c.args.shelf.now)) (beside sink disk (told_files g.S.Shelf c.plan_save.new.shelf)) _ _ is
    c.in-Ok.ensures.comes (λ e. cc) (λ e. cc)
    (found words (save (save_view c.args.save.now)) (beside sink disk (told_files g.S.Shelf c.args.shelf.now)) is c.in-Ok.ensures.bytes
    (told_disk (g.D.Sectors.size c.args.disk.now) (g.D.Sectors.sectors c.args.disk.now) (g.met.D.Sectors.sized c.args.disk.now) c.are_sectors.ensures))
    (c.in-Ok.ensures.gets sink disk)
    (plan_taken c.plans_have_shape.ensures words (save (save_view c.args.save.now)) (saveable_for (save_view c.args.save.now) c.in-Ok.saveable) (beside sink disk (told_files g.S.Shelf c.args.shelf.now))
    (beside sink disk (told_files g.S.Shelf c.plan_save.new.shelf)) _ _ is c.in-Ok.ensures.comes c.save_system.ensures) c.save_system.ensures

pub returns-in-Err : goal.returns-in-Err
returns-in-Err g c = λ words is.
    let sink = output g.O.Sink c.args.out.now in
    let disk = drive g.D.Sectors c.args.disk.now in
    stop_done g.O.Sink words (save (save_view c.args.save.now)) disk (told_files g.S.Shelf c.args.shelf.now) (told_files g.S.Shelf c.plan_save.new.shelf) c.in-Err.stop _ _ _ is
    (c.in-Err.ensures.gets sink disk) c.in-Err.ensures.comes c.say_stop.ensures
