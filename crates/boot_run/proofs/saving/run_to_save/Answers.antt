use Rattle.std.proofs.lemmas.Result.{err_from_is_err_and}
use Rattle.layer_contract.specs.Follows.{loaded}
use Rattle.layer_contract.specs.Starts.{user_sectors}
use Rattle.boot_turns.specs.declared.answers.View.TheVariants.{Boot}
use Rattle.boot_run.specs.Loading.{system_of}
use Rattle.boot_run.specs.LoadedPages.{user_pages}
use Rattle.boot_run.specs.LoadEnds.{pages_needed}
use Rattle.boot_run.specs.Loaded.{boot_load}
use Rattle.boot_run.proofs.SavedBoots.{saves_so}
use Rattle.boot_run.specs.LoadScript.{load_script}
use Rattle.boot_run.proofs.SaveScripts.{save_refused, save_made}
use Rattle.boot_run.proofs.LoadsAndRuns.{unloaded}
use Rattle.boot_run.proofs.saving.run_to_save.Goals as goal

pub returns-in_err-run-clause-stops : goal.returns-in_err-run-clause-stops
returns-in_err-run-clause-stops g c =
    let w = err_from_is_err_and c.from_residual.result c.from_residual.ensures.1 in
    rw w.1 (λ old now is re. tt)

pub returns-in_err-run-clause-loads : goal.returns-in_err-run-clause-loads
returns-in_err-run-clause-loads g c =
    let w = err_from_is_err_and c.from_residual.result c.from_residual.ensures.1 in
    rw (w.1, w.2) (unloaded g.D.Sectors c.args.setup.boot Boot (boot_load c.args.setup.boot c.args.setup.schedule) c.args.out.now c.args.disk.now c.load.new.disk c.in_err-run.field-0.0 c.in_err-run.ensures.refused c.in_err-run.ensures.script)

pub returns-clause-stops : goal.returns-clause-stops
returns-clause-stops g c =
    saves_so c.args.setup.layer c.args.setup.boot c.args.setup.schedule (pages_needed c.args.setup.boot) (g.D.Sectors.size c.args.disk.now) (g.D.Sectors.size c.load.new.disk) c.args.limits.turns c.args.limits.steps
    (g.D.Sectors.sectors c.args.disk.now) (g.D.Sectors.sectors c.load.new.disk) (g.D.Sectors.sectors c.run_to_stop-end.new.disk)
    c.in_ok-run.run' c.run_to_stop-end.new.run c.run_to_stop-end.result c.in_ok-run.ensures.loaded.fresh c.in_ok-run.ensures.size c.requires.some
    (λ old is. c.premises_hold.ensures.loaded old is c.in_ok-run.ensures.loaded.fresh.has_room.room) c.in_ok-run.ensures.loaded.ready
    c.run_to_stop-end.ensures.stops

pub returns-clause-loads : goal.returns-clause-loads
returns-clause-loads g c = record { refused = tt; loaded = c.in_ok-run.ensures.loaded.fresh.has_room; calls = tt; unprinted = tt }

-- the calls
pub returns-in_err-run-clause-script : goal.returns-in_err-run-clause-script
returns-in_err-run-clause-script g c =
    let w = err_from_is_err_and c.from_residual.result c.from_residual.ensures.1 in
    rw (w.1, w.2) (save_refused g.O.Sink g.D.Sectors (system_of c.args.setup.boot c.args.setup.schedule) c.args.setup.schedule (loaded (system_of c.args.setup.boot c.args.setup.schedule)) c.args.limits.turns c.args.limits.steps
    (load_script (user_pages (system_of c.args.setup.boot c.args.setup.schedule)) (pages_needed c.args.setup.boot)) c.args.out.now c.args.disk.now c.load.new.disk c.in_err-run.field-0.0 c.in_err-run.ensures.script)

pub returns-clause-script : goal.returns-clause-script
returns-clause-script g c =
    save_made g.O.Sink g.D.Sectors c.args.setup.layer c.args.setup.boot c.args.setup.schedule (loaded (system_of c.args.setup.boot c.args.setup.schedule)) (user_sectors (system_of c.args.setup.boot c.args.setup.schedule)) (pages_needed c.args.setup.boot) c.args.limits.turns c.args.limits.steps
    (load_script (user_pages (system_of c.args.setup.boot c.args.setup.schedule)) (pages_needed c.args.setup.boot)) c.args.out.now c.run_to_stop-end.new.out c.args.disk.now c.load.new.disk c.run_to_stop-end.new.disk c.in_ok-run.run' c.run_to_stop-end.new.run c.run_to_stop-end.result
    c.in_ok-run.ensures.loaded.fresh c.in_ok-run.ensures.size c.requires.some (λ old is. (1, c.premises_hold.ensures.loaded old is c.in_ok-run.ensures.loaded.fresh.has_room.room)) c.in_ok-run.ensures.loaded.ready
    c.in_ok-run.ensures.script c.run_to_stop-end.ensures.script
