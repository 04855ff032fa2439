use Rattle.std.proofs.lemmas.Result.{err_from_is_err_and}
use Rattle.layer_contract.specs.Follows.{loaded}
use Rattle.boot_run.specs.LoadEnds.{pages_needed}
use Rattle.boot_run.specs.LoadScript.{load_script}
use Rattle.boot_run.specs.LoadedPages.{user_pages}
use Rattle.boot_run.specs.Loading.{system_of}
use Rattle.machine_save.proofs.SaveCalls.{save_refused, save_stopped, save_ended, save_told, stopped_words}
use Rattle.machine_save.proofs.saving.save_run.Goals as goal

pub returns-in_err-run-clause-loads : goal.returns-in_err-run-clause-loads
returns-in_err-run-clause-loads g c =
    let w = err_from_is_err_and c.from_residual.result c.from_residual.ensures.1 in
    let e = c.in_err-run.ensures.loads in
    rw (w.1, w.2) (record { refused = e.refused; loaded = tt; calls = record { made = e.calls.made; none = e.calls.none }; unprinted = e.unprinted })

pub returns-in-Stopped-clause-loads : goal.returns-in-Stopped-clause-loads
returns-in-Stopped-clause-loads g c = record { refused = tt; loaded = c.in_ok-run.ensures.loads.loaded; calls = tt; unprinted = tt }

pub returns-clause-loads : goal.returns-clause-loads
returns-clause-loads g c = record { refused = tt; loaded = c.in_ok-run.ensures.loads.loaded; calls = tt; unprinted = tt }

-- the calls
pub returns-in_err-run-clause-script : goal.returns-in_err-run-clause-script
returns-in_err-run-clause-script g c =
    let w = err_from_is_err_and c.from_residual.result c.from_residual.ensures.1 in
    rw (w.1, w.2) (save_refused g.S.Shelf g.O.Sink g.D.Sectors (system_of c.args.setup.boot c.args.setup.schedule) c.args.setup.schedule (loaded (system_of c.args.setup.boot c.args.setup.schedule)) c.args.limits.turns c.args.limits.steps
    (load_script (user_pages (system_of c.args.setup.boot c.args.setup.schedule)) (pages_needed c.args.setup.boot)) c.args.place.name.now c.args.shelf.now c.args.out.now c.run_to_save.new.out c.args.disk.now c.run_to_save.new.disk c.in_err-run.field-0.0 c.in_err-run.ensures.script)

pub returns-in-Stopped-clause-script : goal.returns-in-Stopped-clause-script
returns-in-Stopped-clause-script g c =
    save_stopped g.S.Shelf g.O.Sink g.D.Sectors (system_of c.args.setup.boot c.args.setup.schedule) c.args.setup.schedule (loaded (system_of c.args.setup.boot c.args.setup.schedule)) c.args.limits.turns c.args.limits.steps c.args.place.room.words
    (load_script (user_pages (system_of c.args.setup.boot c.args.setup.schedule)) (pages_needed c.args.setup.boot)) c.args.place.name.now c.args.shelf.now c.put_state.new.shelf c.args.out.now c.run_to_save.new.out c.put_state.new.out c.args.disk.now c.run_to_save.new.disk c.in_ok-run.run' c.in_ok-run.end c.put_state.result c.in-Stopped.is c.in_ok-run.ensures.script
    (stopped_words c.args.setup.boot c.args.setup.schedule (g.D.Sectors.size c.args.disk.now) c.args.limits.turns c.args.limits.steps c.args.place.room.words (g.D.Sectors.sectors c.args.disk.now) (g.D.Sectors.sectors c.run_to_save.new.disk)
    c.in_ok-run.run' c.in_ok-run.end c.in-Stopped.is c.in_ok-run.ensures.stops
    (save_told g.O.Sink g.D.Sectors (system_of c.args.setup.boot c.args.setup.schedule) c.args.setup.schedule (loaded (system_of c.args.setup.boot c.args.setup.schedule)) c.args.limits.turns c.args.limits.steps
    (load_script (user_pages (system_of c.args.setup.boot c.args.setup.schedule)) (pages_needed c.args.setup.boot)) c.args.out.now c.run_to_save.new.out c.args.disk.now c.run_to_save.new.disk c.in_ok-run.run' c.in_ok-run.end c.in_ok-run.ensures.script)
    c.boots_hold.ensures.taken_up c.in_ok-run.ensures.loads.loaded.room c.boots_hold.ensures.disk
    c.requires.some c.are_in_range.ensures.turns c.are_in_range.ensures.steps c.requires.room c.boots_hold.ensures.boots c.machines_run.ensures c.turns_are_counted.ensures)
    c.put_state.ensures

pub returns-clause-script : goal.returns-clause-script
returns-clause-script g c =
    save_ended g.S.Shelf g.O.Sink g.D.Sectors (system_of c.args.setup.boot c.args.setup.schedule) c.args.setup.schedule (loaded (system_of c.args.setup.boot c.args.setup.schedule)) c.args.limits.turns c.args.limits.steps
    (load_script (user_pages (system_of c.args.setup.boot c.args.setup.schedule)) (pages_needed c.args.setup.boot)) c.args.place.name.now c.args.shelf.now c.args.out.now c.run_to_save.new.out c.args.disk.now c.run_to_save.new.disk c.in_ok-run.run' c.in_ok-run.end
    c.in_default.not-Stopped c.in_ok-run.ensures.unput c.in_ok-run.ensures.script
