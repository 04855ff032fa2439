use Rattle.std.proofs.Common.{refl}
use Rattle.cvm_outside.specs.Outside.{files as told_files, output, drive}
use Rattle.real_layer.specs.Image.{layer_image}
use Rattle.run_scripts.specs.Command.{command_of}
use Rattle.run_scripts.specs.Ends.{AreBytes}
use Rattle.cvm_shell.specs.Does.{WereGot, StopGets}
use Rattle.cvm_shell.specs.Stages.{FilesPlan, IsBootPlan, ready_for}
use Rattle.cvm_shell.specs.Views.{boot_view}
use Rattle.cvm_shell.proofs.CommandPlans.{session_of, viewed_plan}
use Rattle.cvm_shell.proofs.GotCalls.{beside}
use Rattle.cvm_shell.proofs.FilesComeToPlans.{if_refused}
use Rattle.cvm_shell.proofs.StageEnds.{found, viewed, run_done, stop_done}
use Rattle.cvm_shell.proofs.StartAnswers.{told_disk}
use Rattle.cvm_shell.proofs.run_boot.Goals as goal

pub returns-in-Ok : goal.returns-in-Ok
returns-in-Ok g c = λ words is.
    let b = boot_view c.args.boot.now in
    let session = session_of b c.args.view in
    let sink = output g.O.Sink c.args.out.now in
    let disk = drive g.D.Sectors c.args.disk.now in
    let before = beside sink disk (told_files g.S.Shelf c.args.shelf.now) in
    let mid = beside sink disk (told_files g.S.Shelf c.plan.new.shelf) in
    run_done words (command_of b c.args.view) (ready_for session c.in-Ok.ready) before mid _ _ is
    (viewed_plan _ b c.args.view _ (c.in-Ok.ensures.comes session)) (λ e. cc) (λ e. cc)
    (found words (command_of b c.args.view) before is (viewed (AreBytes before.shelf.file) b c.args.view c.in-Ok.ensures.bytes)
    (told_disk (g.D.Sectors.size c.args.disk.now) (g.D.Sectors.sectors c.args.disk.now) (g.met.D.Sectors.sized c.args.disk.now) c.are_sectors.ensures))
    (viewed (λ names. WereGot names before mid) b c.args.view (c.in-Ok.ensures.gets sink disk)) refl
    (c.run_system.ensures (told_files g.S.Shelf c.plan.new.shelf))

pub returns-in-Err : goal.returns-in-Err
returns-in-Err g c = λ words is.
    let b = boot_view c.args.boot.now in
    let session = session_of b c.args.view in
    let file = g.S.Shelf.file c.args.shelf.now in
    let sink = output g.O.Sink c.args.out.now in
    let disk = drive g.D.Sectors c.args.disk.now in
    let before = beside sink disk (told_files g.S.Shelf c.args.shelf.now) in
    let mid = beside sink disk (told_files g.S.Shelf c.plan.new.shelf) in
    stop_done g.O.Sink words (command_of b c.args.view) disk (told_files g.S.Shelf c.args.shelf.now) (told_files g.S.Shelf c.plan.new.shelf) c.in-Err.stop _ _ _ is
    (viewed (λ names. StopGets names before mid c.in-Err.stop) b c.args.view (c.in-Err.ensures.gets sink disk))
    (if_refused (IsBootPlan layer_image file b session) (FilesPlan layer_image file (command_of b c.args.view)) (viewed_plan file b c.args.view) c.in-Err.stop (c.in-Err.ensures.comes session))
    c.say_stop.ensures
