use Rattle.std.proofs.Common.{ℕ, List, refl, sym, subst}
use Rattle.real_layer.specs.Image.{layer_image}
use Rattle.run_scripts.specs.Command.{check}
use Rattle.run_scripts.specs.Plan.{prints}
use Rattle.cvm_shell.specs.Stages.{FilesPlan}
use Rattle.cvm_shell.specs.Views.{check_view}
use Rattle.cvm_outside.specs.Outside.{files as told_files, output}
use Rattle.cvm_shell.proofs.StageEnds.{stop_done, told_done}
use Rattle.cvm_shell.proofs.check.check_object.Goals as goal

pub returns-in-Err : goal.returns-in-Err
returns-in-Err g c = λ words disk is.
    stop_done g.O.Sink words (check (check_view c.args.check.now)) disk (told_files g.S.Shelf c.args.shelf.now) (told_files g.S.Shelf c.stack_text.new.shelf) c.in-Err.stop _ _ _ is
    (c.in-Err.ensures.gets (output g.O.Sink c.args.out.now) disk) c.in-Err.ensures.comes c.say_stop.ensures

pub returns-in-Ok : goal.returns-in-Ok
returns-in-Ok g c = λ words disk is.
    let sink = output g.O.Sink c.args.out.now in
    let P : List ℕ → Type 0 = λ text. FilesPlan layer_image (g.S.Shelf.file c.args.shelf.now) (check (check_view c.args.check.now)) (prints text) in
    told_done words (check (check_view c.args.check.now)) c.deref.result.now _ _ _ _ is (subst P (sym c.deref.ensures.value) c.in-Ok.ensures.comes)
    (c.in-Ok.ensures.gets sink disk) refl (c.say.ensures (told_files g.S.Shelf c.stack_text.new.shelf) disk)
