use Rattle.std.proofs.Common.{◌∙◌, ap}
use Rattle.std.proofs.lemmas.Result.{err_from_is_err_and}
use Rattle.layer_map.specs.Map.{memory_frames}
use Rattle.kernel_linker.specs.Accept.{image_system}
use Rattle.cvm_shell.proofs.SavePlans.{room_fault, room_short, room_words}
use Rattle.cvm_shell.proofs.saving.room_for.Goals as goal

pub returns-in_err-room-clause-stops : goal.returns-in_err-room-clause-stops
returns-in_err-room-clause-stops c =
    let p = err_from_is_err_and c.from_residual.result c.from_residual.ensures.1 in
    let frames = c.memory_frames-frames.ensures.value ∙ ap memory_frames (c.memory_map.ensures ∙ c.requires.made.same_map) in
    rw (p.1, p.2) (room_fault c.memory_frames-frames.result (image_system c.args.ready.now.boot) c.in_err-room.field-0.0 frames c.in_err-room.ensures)

pub returns-clause-room : goal.returns-clause-room
returns-clause-room c =
    room_words c.memory_frames-frames.result (image_system c.args.ready.now.boot) c.in_ok-room.room (c.memory_frames-frames.ensures.value ∙ ap memory_frames (c.memory_map.ensures ∙ c.requires.made.same_map)) c.in_ok-room.ensures

pub returns-clause-short : goal.returns-clause-short
returns-clause-short c =
    room_short c.memory_frames-frames.result (image_system c.args.ready.now.boot) c.in_ok-room.room (c.memory_frames-frames.ensures.value ∙ ap memory_frames (c.memory_map.ensures ∙ c.requires.made.same_map)) c.in_ok-room.ensures
