use Rattle.std.proofs.Common.{ℕ, subst}
use Rattle.std.proofs.lemmas.Result.{err_from_is_err_and}
use Rattle.boot_run.specs.Pieces.{AreBoots}
use Rattle.saved_file.specs.Resumable.{wanted}
use Rattle.machine_save.proofs.WantedFiles.{is_wanted, room_is, taken, too_small}
use Rattle.machine_save.proofs.resuming.resume.Goals as goal

pub returns-clause-is : goal.returns-clause-is
returns-clause-is g c =
    taken c.args.setup.layer c.args.setup.boot c.args.setup.schedule c.args.turns (g.D.Sectors.size c.args.disk.now) c.count-have.result c.args.bytes.now c.in_ok-words.words.items c.deref-2.result.now
    (wanted c.sizes_of-sizes.result c.inputs-inputs.result.now c.deref.result.now c.args.turns) c.in_ok-resumed.field-0
    (is_wanted c.args.setup.boot c.args.setup.schedule c.args.turns c.sizes_of-sizes.result c.inputs-inputs.result.now c.deref.result.now c.sizes_of-sizes.ensures.frames c.sizes_of-sizes.ensures.users c.sizes_of-sizes.ensures.pages c.inputs-inputs.ensures.words c.deref.ensures.value)
    c.in_ok-words.ensures.is c.in_ok-words.ensures.spelled c.in_ok-words.ensures.resumable
    (room_is c.args.setup.boot c.sizes_of-sizes.result c.count-have.result (g.D.Sectors.size c.args.disk.now) c.sizes_of-sizes.ensures.users c.sizes_of-sizes.ensures.pages c.count-have.ensures c.in_ok-check_room.ensures.ok)
    c.count-have.ensures c.deref-2.ensures.value c.in_ok-resumed.ensures.taken_up

pub returns-clause-boots : goal.returns-clause-boots
returns-clause-boots g c = subst (λ (n : ℕ). AreBoots c.args.setup.boot c.args.setup.schedule n) c.count-have.ensures c.resumed.ensures.boots

pub returns-in_err-check_room-clause-is : goal.returns-in_err-check_room-clause-is
returns-in_err-check_room-clause-is g c =
    let few = c.in_err-check_room.ensures.few in
    let made = c.from_residual-in_err-check_room.ensures in
    let small = too_small c.args.setup.layer c.args.setup.boot c.args.setup.schedule c.args.turns (g.D.Sectors.size c.args.disk.now) c.count-have.result c.sizes_of-sizes.result c.args.bytes.now c.in_ok-words.words.items
    (wanted c.sizes_of-sizes.result c.inputs-inputs.result.now c.deref.result.now c.args.turns)
    (is_wanted c.args.setup.boot c.args.setup.schedule c.args.turns c.sizes_of-sizes.result c.inputs-inputs.result.now c.deref.result.now c.sizes_of-sizes.ensures.frames c.sizes_of-sizes.ensures.users c.sizes_of-sizes.ensures.pages c.inputs-inputs.ensures.words c.deref.ensures.value)
    c.in_ok-words.ensures.is c.sizes_of-sizes.ensures.users c.sizes_of-sizes.ensures.pages c.count-have.ensures c.in_err-check_room.field-0.0.need c.in_err-check_room.field-0.0.have few in
    let w = err_from_is_err_and c.from_residual-in_err-check_room.result made.1 in rw (w.1, w.2) small
