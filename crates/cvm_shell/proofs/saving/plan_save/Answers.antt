use Rattle.std.proofs.lemmas.Result.{err_from_is_err_and}
use Rattle.kernel_linker.specs.Accept.{image_system}
use Rattle.real_layer.specs.Image.{layer_image}
use Rattle.run_scripts.specs.Command.{save_session}
use Rattle.cvm_shell.specs.Views.{save_view}
use Rattle.cvm_shell.proofs.SavePlans.{save_stopped, save_no_room, save_short, no_room_stops}
use Rattle.cvm_shell.proofs.GotCalls.{stop_behind}
use Rattle.cvm_shell.proofs.saving.plan_save.Goals as goal

pub returns-in_err-ready-clause-comes : goal.returns-in_err-ready-clause-comes
returns-in_err-ready-clause-comes g c =
    let p = err_from_is_err_and c.from_residual.result c.from_residual.ensures.1 in
    rw (p.1, p.2) (save_stopped layer_image (g.S.Shelf.file c.args.shelf.now) (save_view c.args.save.now) c.in_err-ready.field-0.0 (c.in_err-ready.ensures.comes (save_session (save_view c.args.save.now))))

pub returns-in_err-room-clause-comes : goal.returns-in_err-room-clause-comes
returns-in_err-room-clause-comes g c =
    let p = err_from_is_err_and c.from_residual-in_err-room.result c.from_residual-in_err-room.ensures.1 in
    rw (p.1, p.2) (save_no_room layer_image (g.S.Shelf.file c.args.shelf.now) (save_view c.args.save.now) (image_system c.in_ok-ready.ready.boot) c.in_ok-ready.ready.schedule c.in_err-room.field-0.0
    (c.in_ok-ready.ensures.comes (save_session (save_view c.args.save.now))) c.in_err-room.ensures.stops)

pub returns-clause-comes : goal.returns-clause-comes
returns-clause-comes g c =
    save_short layer_image (g.S.Shelf.file c.args.shelf.now) (save_view c.args.save.now) (image_system c.in_ok-ready.ready.boot) c.in_ok-ready.ready.schedule
    (c.in_ok-ready.ensures.comes (save_session (save_view c.args.save.now))) c.in_ok-room.ensures.short

pub returns-in_err-ready-clause-gets : goal.returns-in_err-ready-clause-gets
returns-in_err-ready-clause-gets g c = λ sink disk.
    let p = err_from_is_err_and c.from_residual.result c.from_residual.ensures.1 in
    rw (p.1, p.2) (c.in_err-ready.ensures.gets sink disk)

pub returns-in_err-room-clause-gets : goal.returns-in_err-room-clause-gets
returns-in_err-room-clause-gets g c = λ sink disk.
    let p = err_from_is_err_and c.from_residual-in_err-room.result c.from_residual-in_err-room.ensures.1 in
    let n = no_room_stops (image_system c.in_ok-ready.ready.boot) c.in_err-room.field-0.0 c.in_err-room.ensures.stops in
    rw (p.1, p.2) (stop_behind _ _ _ c.in_err-room.field-0.0 (c.in_ok-ready.ensures.gets sink disk) n.0 n.1)

pub returns-clause-gets : goal.returns-clause-gets
returns-clause-gets g c = λ sink disk. c.in_ok-ready.ensures.gets sink disk

pub returns-clause-bytes : goal.returns-clause-bytes
returns-clause-bytes g c = c.in_ok-ready.ensures.bytes
