-- The resume of a saved run.
use Rattle.std.proofs.Common.{◌≡◌, ◌≤◌, ℕ, List, [], ◌∷◌, ◌++◌, Option, Some, None, refl, ◌∙◌, sym, subst}
use Rattle.kernel_linker.specs.Accept.{ImageSystem}
use Rattle.schedule_file.specs.Rows.{Rows}
use Rattle.run_scripts.specs.declared.exit_status.Status.{Status}
use Rattle.run_scripts.specs.Command.{Save, IsResume, save_session, resume}
use Rattle.run_scripts.specs.Plan.{Plan, resumes}
use Rattle.cvm_outside.specs.Script.{Call, Performs}
use Rattle.cvm_outside.specs.Outside.{Outside, Drive}
use Rattle.run_scripts.specs.Boot.{sectors_needed}
use Rattle.boot_turns.specs.Runs.{Run, Past}
use Rattle.boot_run.specs.RunScript.{rest_script}
use Rattle.run_scripts.specs.RunStatus.{run_status}
use Rattle.run_scripts.specs.Ends.{GetsFor, all, up_to, WasDone, SavedRun, Joins, answered, done, no_file, no_memory}
use Rattle.run_scripts.specs.AskedRuns.{Asked, Untouched}
use Rattle.run_scripts.specs.Saving.{ResumesJoin}
use Rattle.run_scripts.proofs.GetsKeep.{gets_keep}

pub got_keeps : (file : List ℕ → Option (List ℕ)) (names : List (List ℕ)) (taken : ℕ) (p : Plan) (got : List Call) (old mid : Outside) → GetsFor file names taken p got →
    Performs got old mid None → Untouched old mid
got_keeps file names taken p got old mid (all _ n t) f = gets_keep names old mid f
got_keeps file names taken p got old mid (up_to before after name e s l t) f = gets_keep (before ++ name ∷ []) old mid f

-- what is performed is what is left of the run that was saved
pub saved_joins : (words : List (List ℕ)) (d : Save) (s : ImageSystem) (rows : Rows) (machine : List ℕ) (left : List (List ℕ)) (old new : Outside) (status : Status) (r : Run) (p : Past) (made : ℕ) →
    IsResume words d → Asked words (resumes (save_session d) s rows machine) (save_session d) s rows left old → SavedRun (save_session d) s rows machine old.disk.size left r p made →
    (h : WasDone words old new status) → Performs (rest_script r p made) h.mid new h.blamed × (answered h.due h.blamed ≡ answered (run_status r p) h.blamed)
saved_joins words d s rows machine left old new status r p made is asked saved h =
    let e : resumes (save_session d) s rows machine ≡ h.plan = h.is_plan.only asked.files _ asked.is_plan in
    let k = got_keeps _ _ _ _ _ old h.mid (h.gets.0 (resume d) is) h.files in
    let j = subst (λ (q : Plan). Joins q h.mid new h.blamed h.due) (sym e) h.joins in
    j left r p made (subst (λ (k : Drive). sectors_needed (save_session d) s rows ≤ k.size) (sym k.disk) asked.enough)
    (subst (λ (k : Drive). k.sectors ≡ Some left) (sym k.disk) asked.sectors)
    (subst (λ (k : Drive). SavedRun (save_session d) s rows machine k.size left r p made) (sym k.disk) saved)

pub resumes_join : ResumesJoin
resumes_join words d s rows machine left old new status r p made is asked saved (done _ h) memory shelf =
    let k = got_keeps _ _ _ _ _ old h.mid (h.gets.0 (resume d) is) h.files in
    let two = saved_joins words d s rows machine left old new status r p made is asked saved h in
    record { mid = h.mid; disk = k.disk; sink = k.sink; blamed = h.blamed; performs = two.0; status_is = h.status_is ∙ two.1 }
resumes_join words d s rows machine left old new status r p made is asked saved (no_file c i f) memory shelf = absurd (shelf refl)
resumes_join words d s rows machine left old new status r p made is asked saved (no_memory c i w) memory shelf = absurd (memory refl)
