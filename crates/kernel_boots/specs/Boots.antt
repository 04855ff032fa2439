-- What each boot of an image shows, where each state of the abstract run has a property: over the headline of `run` (`Headlines` of
-- run_scripts/specs/CommandEnds) as it stands.
use Rattle.std.specs.Prelude.{◌≡◌, ◌≢◌, ◌⊎◌, ◌≤◌, true, ℕ, List, Option, Ok}
use Rattle.std.specs.Io.KnownBytes.{append_known}
use Rattle.schedule_file.specs.Rows.{Rows}
use Rattle.boot_image.specs.Parts.{ImageParts as Image}
use Rattle.boot_image.specs.Reading.{answer as image_of}
use Rattle.mips_table.specs.Device.{Environment}
use Rattle.mips_table.specs.Machine.{State}
use Rattle.mips_table.specs.Turns.{complete, lines_of_turn, is_end, end_within}
use Rattle.boot_turns.specs.declared.answers.View.TheVariants.{Boot}
use Rattle.run_scripts.specs.RunStatus.{status_of_end}
use Rattle.run_scripts.specs.RanFrom.{ending}
use Rattle.c0_types.specs.Front.{IsUnitOf}
use Rattle.cvm_model.specs.Cvm.{System, Running, Cvm, IsCvm}
use Rattle.cvm_model.specs.Invariant.{HasEight, IsSafe}
use Rattle.cvm_model.specs.Text.{rows_text, boot_text}
use Rattle.kernel_linker.specs.Accept.{ImageSystem}
use Rattle.run_scripts.specs.declared.exit_status.Status.{Status}
use Rattle.run_scripts.specs.declared.exit_status.Status.TheVariants.{KernelFault, StepLimit, Memory}
use Rattle.run_scripts.specs.declared.session.Session.{Session}
use Rattle.cvm_outside.specs.Outside.{Outside}
use Rattle.run_scripts.specs.Boot.{booted, environment_of, start_state, SessionGoesOn, AskFor, by_boot, by_trace, by_sample, IsHonest}
use Rattle.run_scripts.specs.CommandEnds.{Headlines}

-- a property of a state after so many turns with these lines
abbrev pub OfStates : Type 1
OfStates = (ℕ → ℕ) → ℕ → Cvm → Type 0

-- EACH STATE of a system's run has it, whatever lines are raised
abbrev pub AlwaysHas : System → OfStates → Type 0
AlwaysHas y P = (lines : ℕ → ℕ) → HasEight lines → (k : ℕ) (c : Cvm) → IsCvm y lines k c → P lines k c

-- THE TEXT of a state, by the status: where the steps ran out its rows so far, else the whole report, with its rows in front
abbrev pub TextOfState : System → Status → Cvm → List ℕ → Type 0
TextOfState y StepLimit c text = text ≡ rows_text c.rows
TextOfState y other c text = text ≡ boot_text y c

-- how many turns of a run from a state are complete at the headline's step
abbrev pub turns_made : Environment → State → (turns steps : ℕ) → ℕ
turns_made x s turns steps = complete x s (end_within x s turns steps)

-- WHERE A RUN STANDS at the headline's step: at the state of its own turns, with the lines that its machine met. Status and text are by that state; and
-- where the run ended, its turns are complete or it has halted or faulted. How the machine rests there says `StatesRest`.
pub record StandsAt (x : Environment) (y : System) (s : State) (turns steps : ℕ) (status : Status) (text : List ℕ) : Type 0 where
  pub state : Cvm
  pub is : IsCvm y (lines_of_turn x s) (turns_made x s turns steps) state
  pub status_is : status ≡ status_of_end (ending x s turns steps state)
  pub text_is : TextOfState y status state text
  pub few : is_end x s turns (end_within x s turns steps) ≡ true → turns_made x s turns steps ≤ turns
  pub over : is_end x s turns (end_within x s turns steps) ≡ true → (turns_made x s turns steps ≡ turns) ⊎ (state.status ≢ Running)

-- a text is that of the state where a run stands, which has the property
pub record Shows (x : Environment) (y : System) (s : State) (turns steps : ℕ) (P : OfStates) (status : Status) (text : List ℕ) : Type 0 where
  pub stands : StandsAt x y s turns steps status text
  pub has : P (lines_of_turn x s) (turns_made x s turns steps) stands.state

-- the run of a session
abbrev pub SessionStands : Session → ImageSystem → Rows → (before : List (List ℕ)) → Outside → Status → List ℕ → Type 0
SessionStands session s rows before old = StandsAt (environment_of rows old) (booted s rows) (start_state session s rows before) session.turns session.steps

abbrev pub SessionShows : Session → ImageSystem → Rows → (before : List (List ℕ)) → Outside → OfStates → Status → List ℕ → Type 0
SessionShows session s rows before old = Shows (environment_of rows old) (booted s rows) (start_state session s rows before) session.turns session.steps

-- A BOOT STANDS SO: what it printed is the text of the state where its run stands; and the machine comes to the end of every turn of that run, within its bound
pub record BootStands (session : Session) (s : ImageSystem) (rows : Rows) (before : List (List ℕ)) (status : Status) (old new : Outside) : Type 0 where
  pub text : List ℕ
  pub printed : new.sink.text ≡ append_known old.sink.text text
  pub stands : SessionStands session s rows before old status text
  pub goes_on : SessionGoesOn session old s rows before

-- a law: EACH BOOT with no failed call shows the state of its own run
abbrev pub BootsStand : Type 0
BootsStand = (words : List (List ℕ)) (status : Status) (old new : Outside) → Headlines words status old new
    → (session : Session) (s : ImageSystem) (rows : Rows) (before : List (List ℕ)) → IsHonest words session s rows before old new
    → status ≢ Memory → session.view ≡ Boot → BootStands session s rows before status old new

-- A BOOT SHOWS IT: what it printed is the text of such a state; and where the property excludes faults, its status is not that of a kernel's fault
pub record BootShows (session : Session) (s : ImageSystem) (rows : Rows) (before : List (List ℕ)) (P : OfStates) (old new : Outside) (status : Status) :
    Type 0 where
  pub printed : (text : List ℕ) × (new.sink.text ≡ append_known old.sink.text text) × SessionShows session s rows before old P status text
  pub no_fault : ((lines : ℕ → ℕ) (k : ℕ) (c : Cvm) → P lines k c → IsSafe c.status) → status ≢ KernelFault

-- THE COROLLARY, for any property of states: by the headline of `run` each boot with no failed call shows it, where the system's run always has it
abbrev pub BootsShow : Type 1
BootsShow = (P : OfStates) (words : List (List ℕ)) (status : Status) (old new : Outside) → Headlines words status old new
    → (session : Session) (s : ImageSystem) (rows : Rows) (before : List (List ℕ)) → IsHonest words session s rows before old new
    → status ≢ Memory → session.view ≡ Boot → AlwaysHas (booted s rows) P → BootShows session s rows before P old new status

-- the bytes of an image that has this source
abbrev pub HasSource : List ℕ → List ℕ → Type 0
HasSource source bytes = (i : Image) × (image_of bytes ≡ Ok i) × (i.source ≡ source)

-- words and files ask for a run of an image with this source: the file that is named, or what a sample is linked to
abbrev pub AsksSource : List ℕ → {words : List (List ℕ)} → {file : List ℕ → Option (List ℕ)} → {session : Session} → {s : ImageSystem} → {rows : Rows}
    → AskFor words file session s rows → Type 0
AsksSource source (by_boot b is same files) = HasSource source files.image
AsksSource source (by_trace t is same files) = HasSource source files.image
AsksSource source (by_sample x is same parts) = HasSource source parts.image

-- a law: the unit of the system that is run is that of this source
abbrev pub RunsItsSource : Type 0
RunsItsSource = (source : List ℕ) (words : List (List ℕ)) (session : Session) (s : ImageSystem) (rows : Rows) (before : List (List ℕ)) (old new : Outside)
    → (h : IsHonest words session s rows before old new) → AsksSource source h.asked → IsUnitOf source s.unit

-- what it printed is the text of a state that has the property, and its status is no kernel's fault
abbrev pub ShowsOf : Session → ImageSystem → Rows → (before : List (List ℕ)) → OfStates → (old new : Outside) → Status → Type 0
ShowsOf session s rows before P old new status =
    (status ≢ KernelFault) × ((text : List ℕ) × (new.sink.text ≡ append_known old.sink.text text) × SessionShows session s rows before old P status text)

-- EACH BOOT of an image with this source: where a fact of its system is given (how many users it has), it shows a property that excludes faults. A boot is
-- one by `boot`, `rom` or `sample` under the headline's premises, with a status other than 8.
abbrev pub BootsOf : (source : List ℕ) → (ImageSystem → Type 0) → (System → OfStates) → Type 0
BootsOf source Is P = (words : List (List ℕ)) (status : Status) (old new : Outside) → Headlines words status old new
    → (session : Session) (s : ImageSystem) (rows : Rows) (before : List (List ℕ)) → (h : IsHonest words session s rows before old new)
    → status ≢ Memory → session.view ≡ Boot → AsksSource source h.asked → Is s
    → ShowsOf session s rows before (P (booted s rows)) old new status
