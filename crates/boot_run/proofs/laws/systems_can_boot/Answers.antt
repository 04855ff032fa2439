use Rattle.std.proofs.Common.{◌<◌, ◌≤◌, ◌^◌, subst, arith}
use Rattle.std.specs.Prelude.{All}
use Rattle.boot_run.specs.LoadEnds.{pages_needed}
use Rattle.boot_run.proofs.PremisesOfBoots.{bootable, rom_bootable}
use Rattle.boot_run.proofs.laws.systems_can_boot.Goals as goal

pub returns-clause-loaded : goal.returns-clause-loaded
returns-clause-loaded g c = λ count room old disk.
    bootable (g.L.Layer.image c.args.layer.now) (g.L.Layer.sizes c.args.layer.now) (g.L.Layer.map c.args.layer.now) c.args.boot.now c.requires c.keeps_laws.ensures.linked c.keeps_laws.ensures.laws c.args.schedule.now count old
    (record { eight = c.schedules_end.ensures.eight count; end = c.schedules_end.ensures.end count; within = c.longest.ensures.longest; few = c.inputs.ensures.few; words = c.inputs.ensures.bits })
    (subst (All (λ w. w < 2 ^ 32)) c.as_slice.ensures.value c.are_words.ensures) disk.size disk.each room c.the_loaded_machine_starts.ensures.start c.the_loaded_machine_starts.ensures.beyond

pub returns-clause-rom : goal.returns-clause-rom
returns-clause-rom g c = λ count room old disk.
    let users : pages_needed c.args.boot.now ≤ count = omega (arith, room) in
    rom_bootable (g.L.Layer.image c.args.layer.now) (g.L.Layer.sizes c.args.layer.now) (g.L.Layer.map c.args.layer.now) c.args.boot.now c.requires c.keeps_laws.ensures.linked c.keeps_laws.ensures.laws c.args.schedule.now count old
    (record { eight = c.schedules_end.ensures.eight count; end = c.schedules_end.ensures.end count; within = c.longest.ensures.longest; few = c.inputs.ensures.few; words = c.inputs.ensures.bits })
    (subst (All (λ w. w < 2 ^ 32)) c.as_slice.ensures.value c.are_words.ensures) disk.size disk.each users c.the_rom_starts.ensures room
