use Rattle.std.proofs.lemmas.Result.{err_from_is_err_and}
use Rattle.boot_turns.specs.Rom.{rom_sectors}
use Rattle.boot_run.specs.Loading.{system_of}
use Rattle.boot_run.specs.LoadedPages.{rom_pages}
use Rattle.boot_run.specs.LoadEnds.{rom_needed}
use Rattle.boot_run.specs.Loaded.{own_load}
use Rattle.boot_run.specs.Whole.{rom_start_of}
use Rattle.boot_run.specs.LoadScript.{load_script}
use Rattle.boot_run.proofs.LoadsAndRuns.{unloaded, whole_refused, whole_made}
use Rattle.boot_run.proofs.whole.run_rom.Goals as goal

pub returns-in_err-run-clause-loads : goal.returns-in_err-run-clause-loads
returns-in_err-run-clause-loads g c =
    let w = err_from_is_err_and c.from_residual.result c.from_residual.ensures.1 in
    rw (w.1, w.2) (unloaded g.D.Sectors c.args.setup.boot c.args.view (own_load c.args.setup.boot c.args.setup.schedule) c.args.out.now c.args.disk.now c.load_own_rom.new.disk c.in_err-run.field-0.0 c.in_err-run.ensures.refused c.in_err-run.ensures.script)

pub returns-clause-loads : goal.returns-clause-loads
returns-clause-loads g c = record { refused = tt; loaded = c.in_ok-run.ensures.loaded.fresh.has_room; calls = tt; unprinted = tt }

-- the calls
pub returns-in_err-run-clause-script : goal.returns-in_err-run-clause-script
returns-in_err-run-clause-script g c =
    let w = err_from_is_err_and c.from_residual.result c.from_residual.ensures.1 in
    rw (w.1, w.2) (whole_refused g.O.Sink g.D.Sectors (system_of c.args.setup.boot c.args.setup.schedule) c.args.setup.schedule (rom_start_of (system_of c.args.setup.boot c.args.setup.schedule)) c.args.view c.args.limits.turns c.args.limits.steps
    (load_script (rom_pages (system_of c.args.setup.boot c.args.setup.schedule)) (rom_needed c.args.setup.boot)) c.args.out.now c.args.disk.now c.load_own_rom.new.disk c.in_err-run.field-0.0 c.in_err-run.ensures.script)

pub returns-clause-script : goal.returns-clause-script
returns-clause-script g c =
    whole_made g.O.Sink g.D.Sectors c.args.setup.layer c.args.setup.boot c.args.setup.schedule (rom_start_of (system_of c.args.setup.boot c.args.setup.schedule)) (rom_sectors (system_of c.args.setup.boot c.args.setup.schedule)) (rom_needed c.args.setup.boot) c.args.view c.args.limits.turns c.args.limits.steps
    (load_script (rom_pages (system_of c.args.setup.boot c.args.setup.schedule)) (rom_needed c.args.setup.boot)) c.args.out.now c.run_to_end.new.out c.args.disk.now c.load_own_rom.new.disk c.run_to_end.new.disk c.in_ok-run.run' c.run_to_end.result
    c.in_ok-run.ensures.loaded.fresh c.in_ok-run.ensures.size c.requires.some (λ old is. let p = c.premises_hold.ensures.rom old is c.in_ok-run.ensures.loaded.fresh.has_room.room in (p.late, p.bootable))
    c.in_ok-run.ensures.loaded.ready
    c.in_ok-run.ensures.script c.run_to_end.ensures.script.boots
