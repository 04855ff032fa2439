-- SAVE AND RESUME, as laws of scripts: together they make the calls of the boot.
use Rattle.std.specs.Prelude.{◌≡◌, ◌≢◌, ℕ, ◌≤◌, true, List, [], ◌∷◌, ◌++◌, Option}
use Rattle.schedule_file.specs.Rows.{Rows}
use Rattle.cvm_model.specs.Cvm.{Running}
use Rattle.cvm_model.specs.Kernel.{MeaningLaws}
use Rattle.kernel_linker.specs.Accept.{ImageSystem}
use Rattle.run_scripts.specs.declared.exit_status.Status.{Status}
use Rattle.run_scripts.specs.declared.exit_status.Status.TheVariants.{Shelf, Memory}
use Rattle.run_scripts.specs.Command.{Save, IsResume, save_session}
use Rattle.run_scripts.specs.Plan.{resumes}
use Rattle.cvm_outside.specs.Script.{Call, Who, Performs}
use Rattle.cvm_outside.specs.Outside.{Outside}
use Rattle.boot_turns.specs.Runs.{Run, Past, IsPast, steps_made, has_ended, cvm_at}
use Rattle.boot_turns.specs.declared.answers.View.TheVariants.{Boot}
use Rattle.boot_run.specs.RunScript.{rest_script, run_script, saved_bytes, save_script, put_script}
use Rattle.run_scripts.specs.RunStatus.{run_status}
use Rattle.run_scripts.specs.Ends.{Ends, SavedRun, answered}
use Rattle.run_scripts.specs.AskedRuns.{Asked}

-- WHAT A SAVE DOES before it puts the file, and what a resume of it does, are what the boot does: so it is of scripts alone
pub record AreJoined (name : List ℕ) (r q : Run) (load : List Call) (p o : Past) : Type 0 where
  pub front : List Call
  pub saved : (cvm_at q o (steps_made q)).status ≡ Running →
      save_script name q load o ≡ front ++ put_script name (saved_bytes q o)
  pub whole : front ++ rest_script r p (steps_made q) ≡ run_script r load p

-- of each run that comes to its end in no more turns and steps than another of the same machine, whatever the end is
abbrev pub ScriptsJoin : Type 0
ScriptsJoin = (name : List ℕ) (r q : Run) (load : List Call) (p o : Past) → MeaningLaws r.system.boot.meaning →
    q ≡ record r { turns = q.turns; steps = q.steps } → q.turns ≤ r.turns → q.steps ≤ r.steps → r.view ≡ Boot → IsPast r p → IsPast q o →
    has_ended q ≡ true → AreJoined name r q load p o

-- THE RESUME of a saved run performs what is left of that boot's script, up to a call that failed: so the laws of scripts say what stands then
pub record GoesOnAsBoot (r : Run) (p : Past) (made : ℕ) (old new : Outside) (status : Status) : Type 0 where
  pub mid : Outside
  pub disk : mid.disk ≡ old.disk
  pub sink : mid.sink ≡ old.sink
  pub blamed : Option Who
  pub performs : Performs (rest_script r p made) mid new blamed
  pub status_is : status ≡ answered (run_status r p) blamed

abbrev pub ResumesJoin : Type 0
ResumesJoin = (words : List (List ℕ)) (d : Save) (s : ImageSystem) (rows : Rows) (machine : List ℕ) (left : List (List ℕ)) (old new : Outside)
    (status : Status) (r : Run) (p : Past) (made : ℕ) → IsResume words d →
    Asked words (resumes (save_session d) s rows machine) (save_session d) s rows left old →
    SavedRun (save_session d) s rows machine old.disk.size left r p made →
    Ends words old new status → status ≢ Memory → status ≢ Shelf → GoesOnAsBoot r p made old new status
