-- What each boot of a whole system, a kernel with its users, shows, where an invariant of the system was proved: over the rule for systems
-- (cvm_model/specs/Systems).
use Rattle.std.specs.Prelude.{◌≡◌, ◌≢◌, ℕ, suc, ◌+◌, ◌≤◌, List, ◌++◌, length, codes, Option, Ok}
use Rattle.std.specs.Io.KnownBytes.{append_known}
use Rattle.schedule_file.specs.Rows.{Rows}
use Rattle.mips_table.specs.Device.{Environment}
use Rattle.mips_table.specs.Machine.{State}
use Rattle.mips_table.specs.Turns.{lines_of_turn}
use Rattle.boot_image.specs.Parts.{ImageParts as Image}
use Rattle.boot_image.specs.Reading.{answer as image_of}
use Rattle.boot_turns.specs.declared.answers.View.TheVariants.{Boot}
use Rattle.cvm_model.specs.Kernel.{Core}
use Rattle.cvm_model.specs.Cvm.{System, Halted, first_core}
use Rattle.cvm_model.specs.Text.{rows_text, report_text}
use Rattle.cvm_model.specs.Invariant.{Dispatch, IsSafe, HasUsers, dispatches_of}
use Rattle.cvm_model.specs.Systems.{SystemProperty, status_after, lines_taken, EndsBelow, UsePages, SystemHolds, Chain}
use Rattle.run_bounds.specs.Steps.{steps_for}
use Rattle.kernel_linker.specs.Accept.{ImageSystem}
use Rattle.run_scripts.specs.declared.exit_status.Status.{Status}
use Rattle.run_scripts.specs.declared.exit_status.Status.TheVariants.{Done, KernelFault, Memory}
use Rattle.run_scripts.specs.declared.session.Session.{Session}
use Rattle.cvm_outside.specs.Outside.{Outside}
use Rattle.run_scripts.specs.Boot.{booted, environment_of, start_state, steps_before, AskFor, by_boot, by_trace, by_sample, IsHonest}
use Rattle.run_scripts.specs.CommandEnds.{Headlines}
use Rattle.kernel_boots.specs.Boots.{StandsAt, turns_made, BootStands, AsksSource}

-- so long a system runs, by its invariant, where lines are taken in so many dispatches at most: it is running before so many turns alone, at least 1, with
-- so many dispatches at most, of which each touches so many pages at most; and no dispatch faults
pub record SystemEndsWithin (y : System) (n : ℕ) (I : SystemProperty) (lines turns dispatches pages : ℕ) : Type 0 where
  pub some : 1 ≤ turns
  pub below : EndsBelow I lines turns
  pub few : (k : ℕ) (past : List Dispatch) (c : Core) → I k past c → lines_taken past ≤ lines → length past ≤ dispatches
  pub touch : (k : ℕ) (past : List Dispatch) (c : Core) → I k past c → UsePages y n pages past
  pub safe : (k : ℕ) (past : List Dispatch) (c : Core) → I k past c → IsSafe (status_after past)

-- IT HALTED: what it printed ends with `halted` and the report of a halted state
pub record HasHalted (x : Environment) (y : System) (s : State) (turns steps : ℕ) (status : Status) (text : List ℕ)
    (stands : StandsAt x y s turns steps status text) : Type 0 where
  pub status_is : status ≡ Done
  pub halted : stands.state.status ≡ Halted
  pub text_is : text ≡ rows_text stands.state.rows ++ (codes "halted\n" ++ report_text y.boot.meaning.names stands.state.core)

-- WHAT A RUN SHOWS: the state where it stands has the invariant, as soon as a turn is complete; no more dispatches took lines than the schedule has `line`
-- rows; its status is no kernel's fault, where the invariant excludes faults; and it halted, where the turns that are asked for are as many as the system
-- may take under so many rows, and the steps are enough for them
pub record SystemShown (x : Environment) (y : System) (s : State) (late raised turns steps : ℕ) (n : ℕ) (Fit : Core → Type 0) (I : SystemProperty)
    (status : Status) (text : List ℕ) : Type 0 where
  pub stands : StandsAt x y s turns steps status text
  pub holds : (k : ℕ) → turns_made x s turns steps ≡ suc k → SystemHolds Fit I (suc k) (dispatches_of y (lines_of_turn x s) n (suc k)) stands.state
  pub few_lines : (k : ℕ) → lines_taken (dispatches_of y (lines_of_turn x s) n (suc k)) ≤ raised
  pub no_fault : ((k : ℕ) (past : List Dispatch) (c : Core) → I k past c → IsSafe (status_after past)) → status ≢ KernelFault
  pub halts : (lines most dispatches pages : ℕ) → SystemEndsWithin y n I lines most dispatches pages → raised ≤ lines → most ≤ turns
      → steps_for y most dispatches n pages + late ≤ steps → HasHalted x y s turns steps status text stands

-- the bytes of an image that has this source and these users' words
abbrev pub HasSystem : (source : List ℕ) → (users : List (List ℕ)) → List ℕ → Type 0
HasSystem source users bytes = (i : Image) × (image_of bytes ≡ Ok i) × (i.source ≡ source) × (i.users ≡ users)

-- words and files ask for a run of such an image: the file that is named, or what a sample is linked to
abbrev pub AsksSystem : (source : List ℕ) → (users : List (List ℕ)) → {words : List (List ℕ)} → {file : List ℕ → Option (List ℕ)} → {session : Session}
    → {s : ImageSystem} → {rows : Rows} → AskFor words file session s rows → Type 0
AsksSystem source users (by_boot b is same files) = HasSystem source users files.image
AsksSystem source users (by_trace t is same files) = HasSystem source users files.image
AsksSystem source users (by_sample x is same parts) = HasSystem source users parts.image

-- THE COROLLARY: each boot of an image with this source, of whose system a fact is given (which users it has), shows the invariant of its system
abbrev pub SystemsBoot : (source : List ℕ) → (ImageSystem → Type 0) → (n : ℕ) → (System → Core → Type 0) → (System → SystemProperty) → Type 0
SystemsBoot source Is n Fit I = (words : List (List ℕ)) (status : Status) (old new : Outside) → Headlines words status old new
    → (session : Session) (s : ImageSystem) (rows : Rows) (before : List (List ℕ)) → (h : IsHonest words session s rows before old new)
    → status ≢ Memory → session.view ≡ Boot → AsksSource source h.asked → Is s
    → (text : List ℕ) × (new.sink.text ≡ append_known old.sink.text text)
    × SystemShown (environment_of rows old) (booted s rows) (start_state session s rows before) (steps_before session.start (booted s rows)) (length rows.lines)
    session.turns session.steps n (Fit (booted s rows)) (I (booted s rows)) status text

-- THE DISPATCHES OF A BOOT, whatever its kernel and its users are: the state where its run stands is reached by a chain of them, of which it printed the rows.
-- Each begins where the one before it ended, but for untrapped steps of the user who was next, one for each turn between, and is what the kernel means.
pub record BootIsChain (session : Session) (s : ImageSystem) (rows : Rows) (before : List (List ℕ)) (status : Status) (old new : Outside) : Type 0 where
  pub shows : BootStands session s rows before status old new
  pub units : ℕ
  pub chain : (k : ℕ) → turns_made (environment_of rows old) (start_state session s rows before) session.turns session.steps ≡ suc k →
      let y = booted s rows in
      let lines = lines_of_turn (environment_of rows old) (start_state session s rows before) in
      SystemHolds (HasUsers y) (λ k past c. Chain y units 0 (first_core y) past k c) (suc k) (dispatches_of y lines units (suc k)) shows.stands.state

-- a law: so it is of each boot with no failed call
abbrev pub BootsAreChains : Type 0
BootsAreChains = (words : List (List ℕ)) (status : Status) (old new : Outside) → Headlines words status old new
    → (session : Session) (s : ImageSystem) (rows : Rows) (before : List (List ℕ)) → IsHonest words session s rows before old new
    → status ≢ Memory → session.view ≡ Boot → BootIsChain session s rows before status old new
