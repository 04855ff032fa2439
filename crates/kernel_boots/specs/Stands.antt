-- Where the run of a trace, of a save and of a resume stands, and what is printed of that state: as specs/Boots says it of a boot. What was proved of each
-- state of a system's run holds of these, whatever lines their schedules raise: of `state` by `is` or `run`, and by `eight`.
use Rattle.std.specs.Prelude.{◌≡◌, ◌≢◌, ◌⊎◌, ◌≤◌, ℕ, true, None, nat_lt, if◌then◌else◌, List, [], ◌++◌, Some}
use Rattle.std.specs.Io.KnownBytes.{append_known}
use Rattle.schedule_file.specs.Rows.{Rows}
use Rattle.mips_table.specs.Device.{Environment}
use Rattle.mips_table.specs.Machine.{State, run}
use Rattle.mips_table.specs.Turns.{turn_of, complete, lines_of_turn, is_end, IsTurnEnd, end_within}
use Rattle.mips_table.specs.Flat.{Flat}
use Rattle.cvm_model.specs.Kernel.{JournalEntry}
use Rattle.cvm_model.specs.Primitives.{user_of}
use Rattle.cvm_model.specs.Cvm.{System, Cvm, Running, IsCvm, cvm}
use Rattle.cvm_model.specs.Invariant.{HasEight}
use Rattle.cvm_model.specs.Journal.{journal, replay}
use Rattle.cvm_model.specs.Text.{rows_text, start_row, open_journal_rows, trace_text}
use Rattle.boot_turns.specs.declared.answers.View.TheVariants as view
use Rattle.run_scripts.specs.RunStatus.{status_of_end}
use Rattle.run_scripts.specs.RanFrom.{ending}
use Rattle.boot_turns.specs.Trace.{entries_so_far}
use Rattle.boot_turns.specs.TurnEnds.{first_user_machine, Stood, TurnIsOver}
use Rattle.kernel_linker.specs.Accept.{ImageSystem}
use Rattle.run_scripts.specs.declared.exit_status.Status.{Status}
use Rattle.run_scripts.specs.declared.exit_status.Status.TheVariants.{Done, StepLimit, Memory}
use Rattle.run_scripts.specs.declared.session.Session.{Session}
use Rattle.run_scripts.specs.Command.{Save, save_session}
use Rattle.cvm_outside.specs.Outside.{Outside}
use Rattle.run_scripts.specs.Boot.{booted, environment_of, start_state, SessionGoesOn, IsHonest}
use Rattle.run_scripts.specs.CommandEnds.{Headlines, Isolates, EndsRest}
use Rattle.run_scripts.specs.Isolation.{session_lines}
use Rattle.run_scripts.specs.Ends.{Ends}
use Rattle.run_scripts.specs.Saves.{IsHonestSave, Saves}
use Rattle.run_scripts.specs.Resumes.{IsHonestResume, IsSavedRun, Resumes}
use Rattle.kernel_boots.specs.Boots.{turns_made, SessionStands, BootStands}
use Rattle.boot_run.specs.RunScript.{saved_row}

-- what the turn that goes on at step t has done to user u so far: nothing where all turns that began are complete
abbrev pub entries_under_way : Environment → System → State → (units u t : ℕ) → List JournalEntry
entries_under_way x y s units u t = if nat_lt (complete x s t) (turn_of x s t) then entries_so_far x s y units u t else []

-- THE TEXT OF A TRACE, by the status: where the steps ran out the rows of its journal over the complete turns and of what the turn under way has done, else
-- the whole trace, whose last machine and status are those of the state
abbrev pub TraceTextOf : (u : ℕ) → (first : Flat) → (entries more : List JournalEntry) → Status → Cvm → List ℕ → Type 0
TraceTextOf u first entries more StepLimit c text = text ≡ start_row u first ++ open_journal_rows (entries ++ more)
TraceTextOf u first entries more other c text = text ≡ trace_text u first entries (user_of c.core.users u) c.status

-- WHERE A RUN STANDS whose user u is traced, with the lines that its machine met, at the headline's step: as `StandsAt` says of a boot, and the journal is
-- that of the user over the complete turns, whose replay over its first machine is its machine there
pub record TraceStandsAt (x : Environment) (y : System) (s : State) (turns steps u : ℕ) (status : Status) (text : List ℕ) : Type 0 where
  pub state : Cvm
  pub units : ℕ
  pub run : cvm y (lines_of_turn x s) units (turns_made x s turns steps) ≡ Some state
  pub status_is : status ≡ status_of_end (ending x s turns steps state)
  pub replayed : replay (first_user_machine y u) (journal y (lines_of_turn x s) units u (turns_made x s turns steps)) ≡ Some (user_of state.core.users u)
  pub text_is : TraceTextOf u (first_user_machine y u) (journal y (lines_of_turn x s) units u (turns_made x s turns steps))
      (entries_under_way x y s units u (end_within x s turns steps)) status state text
  pub few : is_end x s turns (end_within x s turns steps) ≡ true → turns_made x s turns steps ≤ turns
  pub over : is_end x s turns (end_within x s turns steps) ≡ true → (turns_made x s turns steps ≡ turns) ⊎ (state.status ≢ Running)

-- A TRACE STANDS SO: what it printed is the text of the state where its run stands
pub record TraceStands (session : Session) (u : ℕ) (s : ImageSystem) (rows : Rows) (before : List (List ℕ)) (status : Status) (old new : Outside) :
    Type 0 where
  pub text : List ℕ
  pub printed : new.sink.text ≡ append_known old.sink.text text
  pub stands : TraceStandsAt (environment_of rows old) (booted s rows) (start_state session s rows before) session.turns session.steps u status text
  pub eight : HasEight (session_lines session s rows old before)
  pub goes_on : SessionGoesOn session old s rows before

-- a law: so does each trace with no failed call, by `headlines_hold` and `traces_are_isolated` of run_scripts
abbrev pub TracesStand : Type 0
TracesStand = (words : List (List ℕ)) (status : Status) (old new : Outside) → Headlines words status old new
    → Isolates words status old new → (session : Session) (u : ℕ) (s : ImageSystem) (rows : Rows) (before : List (List ℕ))
    → IsHonest words session s rows before old new → status ≢ Memory → session.view ≡ view.Trace u → TraceStands session u s rows before status old new

-- A RUN WAS SAVED: all turns that were asked for are complete, the state behind them is running, and the machine rests in it at its first step there; what is
-- printed are its rows and `saved`
pub record SavedStands (c : Save) (s : ImageSystem) (rows : Rows) (before : List (List ℕ)) (old new : Outside) : Type 0 where
  pub state : Cvm
  pub is : IsCvm (booted s rows) (session_lines (save_session c) s rows old before) c.boot.turns state
  pub running : state.status ≡ Running
  pub at : ℕ
  pub within : at ≤ c.boot.steps
  pub first : IsTurnEnd (environment_of rows old) (start_state (save_session c) s rows before) c.boot.turns at
  pub stood : Stood (environment_of rows old) (booted s rows) (start_state (save_session c) s rows before) c.boot.turns at state
  pub on : (run (environment_of rows old) (start_state (save_session c) s rows before) at).off ≡ None
  pub printed : new.sink.text ≡ append_known old.sink.text (rows_text state.rows ++ saved_row)

-- A SAVE STANDS SO: as a boot, or where its run was saved
pub record SaveStands (c : Save) (s : ImageSystem) (rows : Rows) (before : List (List ℕ)) (status : Status) (old new : Outside) : Type 0 where
  pub shows : BootStands (save_session c) s rows before status old new ⊎ ((status ≡ Done) × SavedStands c s rows before old new)
  pub eight : HasEight (session_lines (save_session c) s rows old before)

-- a law: so does each save with no failed call, by `saves_are_held` and `machines_rest` of run_scripts
abbrev pub SavesStand : Type 0
SavesStand = (words : List (List ℕ)) (status : Status) (old new : Outside) → Saves words status old new → EndsRest words status old new
    → (c : Save) (s : ImageSystem) (rows : Rows) (before : List (List ℕ)) → IsHonestSave words c s rows before old new → status ≢ Memory
    → SaveStands c s rows before status old new

-- A RESUME STANDS SO, of a run that had printed `shown` when it was saved: what both printed is the text of the state where the whole run stands, from its
-- start
pub record ResumeStands (c : Save) (s : ImageSystem) (rows : Rows) (before : List (List ℕ)) (shown : List ℕ) (status : Status) (old new : Outside) :
    Type 0 where
  pub text : List ℕ
  pub printed : new.sink.text ≡ append_known old.sink.text text
  pub stands : SessionStands (save_session c) s rows before old status (shown ++ text)
  pub eight : HasEight (session_lines (save_session c) s rows old before)
  pub goes_on : SessionGoesOn (save_session c) old s rows before

-- a law: so does each resume of a saved run, with no failed call, by `resumes_are_held`
abbrev pub ResumesStand : Type 0
ResumesStand = (words : List (List ℕ)) (status : Status) (old new : Outside) → Resumes words status old new
    → (c : Save) (s : ImageSystem) (rows : Rows) (machine : List ℕ) (left before : List (List ℕ)) (shown : List ℕ)
    → IsHonestResume words c s rows machine left old new → status ≢ Memory → IsSavedRun c s rows machine left before shown old
    → ResumeStands c s rows before shown status old new

-- where a run from there ended, the machine rests as this state says, and stands for it
abbrev pub EndRests : Session → ImageSystem → Rows → (before : List (List ℕ)) → Outside → Cvm → Type 0
EndRests session s rows before old c =
    let x = environment_of rows old in
    let first = start_state session s rows before in
    let t = end_within x first session.turns session.steps in is_end x first session.turns t ≡ true → TurnIsOver x (booted s rows) first session.turns t c

-- AT REST: so it is of the state where the run of a boot, a trace, a save or a resume stands, and so of the states of all corollaries
pub record StandsAtRest (words : List (List ℕ)) (status : Status) (old new : Outside) : Type 0 where
  pub of_boots : (session : Session) (s : ImageSystem) (rows : Rows) (before : List (List ℕ)) → IsHonest words session s rows before old new → status ≢ Memory
      → (text : List ℕ) (w : SessionStands session s rows before old status text) → EndRests session s rows before old w.state
  pub of_traces : (session : Session) (u : ℕ) (s : ImageSystem) (rows : Rows) (before : List (List ℕ)) → IsHonest words session s rows before old new
      → status ≢ Memory → (a : TraceStands session u s rows before status old new) → EndRests session s rows before old a.stands.state
  pub of_saves : (c : Save) (s : ImageSystem) (rows : Rows) (before : List (List ℕ)) → IsHonestSave words c s rows before old new → status ≢ Memory
      → (text : List ℕ) (w : SessionStands (save_session c) s rows before old status text) → EndRests (save_session c) s rows before old w.state
  pub of_resumes : (c : Save) (s : ImageSystem) (rows : Rows) (machine : List ℕ) (left before : List (List ℕ)) (shown : List ℕ)
      → IsHonestResume words c s rows machine left old new → status ≢ Memory → IsSavedRun c s rows machine left before shown old
      → (a : ResumeStands c s rows before shown status old new) → EndRests (save_session c) s rows before old a.stands.state

-- a law, by `machines_rest` of run_scripts
abbrev pub StatesRest : Type 0
StatesRest = (words : List (List ℕ)) (status : Status) (old new : Outside) → Ends words old new status → StandsAtRest words status old new
