-- What is promised of each run, by its words and its status: the headline, that enough steps are enough, the isolation of a traced user, and how the machine
-- rests.
use Rattle.std.specs.Prelude.{◌≡◌, ◌≢◌, ◌⊎◌, ◌≤◌, ◌+◌, ℕ, List}
use Rattle.schedule_file.specs.Rows.{Rows}
use Rattle.boot_turns.specs.declared.answers.View.TheVariants as view
use Rattle.cvm_model.specs.Cvm.{Cvm}
use Rattle.kernel_linker.specs.Accept.{ImageSystem}
use Rattle.run_scripts.specs.declared.exit_status.Status.{Status}
use Rattle.run_scripts.specs.declared.exit_status.Status.TheVariants.{Done, KernelFault, Memory}
use Rattle.cvm_outside.specs.Outside.{Outside}
use Rattle.run_scripts.specs.declared.session.Session.{Session}
use Rattle.run_scripts.specs.Command.{Save, save_session}
use Rattle.run_scripts.specs.Boot.{booted, steps_before, IsBooted, IsHonest, Headline}
use Rattle.run_scripts.specs.Saves.{IsHonestSave}
use Rattle.run_scripts.specs.Resumes.{IsHonestResume, IsSavedRun, IsBootBehind}
use Rattle.run_scripts.specs.Isolation.{IsolatedTrace}
use Rattle.run_scripts.specs.SessionRuns.{run_of}
use Rattle.run_scripts.specs.AskedRuns.{EndIsOver}

-- THE HEADLINE of each boot and each trace with these words
abbrev pub Headlines : List (List ℕ) → Status → (old new : Outside) → Type 0
Headlines words status old new = (session : Session) (s : ImageSystem) (rows : Rows) (sectors : List (List ℕ)) →
    IsHonest words session s rows sectors old new → status ≢ Memory → Headline session s rows sectors old new status

-- ENOUGH STEPS: where the abstract run is defined for the wanted turns, and its bound with the steps before the layer's is within the steps, the run is
-- done or its kernel faulted
pub record HasSteps (session : Session) (s : ImageSystem) (rows : Rows) (sectors : List (List ℕ)) (old : Outside) : Type 0 where
  pub last : Cvm
  pub defined : IsBooted session old s rows sectors session.turns last
  pub enough : last.bound + steps_before session.start (booted s rows) ≤ session.steps

abbrev pub RunCompletes : List (List ℕ) → Status → (old new : Outside) → Type 0
RunCompletes words status old new = (session : Session) (s : ImageSystem) (rows : Rows) (sectors : List (List ℕ)) →
    IsHonest words session s rows sectors old new
    → status ≢ Memory → HasSteps session s rows sectors old → (status ≡ Done) ⊎ (status ≡ KernelFault)

-- so it is of a save
abbrev pub SavesComplete : List (List ℕ) → Status → (old new : Outside) → Type 0
SavesComplete words status old new = (c : Save) (s : ImageSystem) (rows : Rows) (before : List (List ℕ)) →
    IsHonestSave words c s rows before old new
    → status ≢ Memory → HasSteps (save_session c) s rows before old → (status ≡ Done) ⊎ (status ≡ KernelFault)

-- and of a resume that goes on with a saved run, where the steps are enough for the whole run, from its start; and it is that run, as a boot, from there on:
-- what it prints is that boot's text behind the text of the saved run
abbrev pub ResumesComplete : List (List ℕ) → Status → (old new : Outside) → Type 0
ResumesComplete words status old new = (c : Save) (s : ImageSystem) (rows : Rows) (machine : List ℕ) (left before : List (List ℕ)) (shown : List ℕ) →
    IsHonestResume words c s rows machine left old new → status ≢ Memory → IsSavedRun c s rows machine left before shown old
    → HasSteps (save_session c) s rows before old
    → ((status ≡ Done) ⊎ (status ≡ KernelFault)) × IsBootBehind c s rows before shown old old new status

-- ISOLATION of the user of each trace that is done, or whose kernel faulted
abbrev pub Isolates : List (List ℕ) → Status → (old new : Outside) → Type 0
Isolates words status old new = (session : Session) (u : ℕ) (s : ImageSystem) (rows : Rows) (sectors : List (List ℕ)) →
    IsHonest words session s rows sectors old new
    → session.view ≡ view.Trace u → (status ≡ Done) ⊎ (status ≡ KernelFault) → IsolatedTrace session u s rows sectors old new status

-- AT REST: where the run of a boot, a trace, a save, or a resume that goes on with a saved run came to its end, the machine rests as the status of the
-- abstract run's state there says, and stands for that state
pub record EndsRest (words : List (List ℕ)) (status : Status) (old new : Outside) : Type 0 where
  pub of_boots : (session : Session) (s : ImageSystem) (rows : Rows) (before : List (List ℕ)) → IsHonest words session s rows before old new → status ≢ Memory
      → EndIsOver (run_of session s rows old.disk.size before)
  pub of_saves : (c : Save) (s : ImageSystem) (rows : Rows) (before : List (List ℕ)) → IsHonestSave words c s rows before old new → status ≢ Memory
      → EndIsOver (run_of (save_session c) s rows old.disk.size before)
  pub of_resumes : (c : Save) (s : ImageSystem) (rows : Rows) (machine : List ℕ) (left before : List (List ℕ)) (shown : List ℕ)
      → IsHonestResume words c s rows machine left old new → status ≢ Memory → IsSavedRun c s rows machine left before shown old
      → EndIsOver (run_of (save_session c) s rows old.disk.size before)
