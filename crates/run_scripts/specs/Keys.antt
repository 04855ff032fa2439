-- THE KEYS to the laws: what is so of each run that words ask for, whether a call fails or not; and the laws of the crates below that most laws take.
use Rattle.std.specs.Prelude.{ℕ, ◌+◌, ◌≤◌, List}
use Rattle.schedule_file.specs.Rows.{Rows}
use Rattle.mips_table.specs.Turns.{TurnLaws}
use Rattle.c0_tree.specs.Tree.{CUnit}
use Rattle.c0_meaning.specs.TypedState.{IsTypedState}
use Rattle.layer_contract.specs.Starts.{Beyond}
use Rattle.boot_turns.specs.Premises.{StartsFrom}
use Rattle.boot_turns.specs.Entries.{TracesGrow}
use Rattle.boot_turns.specs.JournalText.{RowsFollow}
use Rattle.boot_turns.specs.RunMachines.{MachinesRun}
use Rattle.kernel_linker.specs.Accept.{ImageSystem}
use Rattle.run_scripts.specs.declared.session.Session.{Session}
use Rattle.run_scripts.specs.Plan.{Plan}
use Rattle.cvm_outside.specs.Script.{Call}
use Rattle.cvm_outside.specs.Outside.{Outside}
use Rattle.cvm_outside.specs.ScriptLaws.{ScriptsBlame, ScriptsTell, ScriptsStore, ScriptsCount}
use Rattle.boot_turns.specs.Runs.{Run}
use Rattle.run_scripts.specs.Boot.{booted, sectors_needed, steps_before}
use Rattle.run_scripts.specs.SessionRuns.{run_of}
use Rattle.run_scripts.specs.Ends.{session_load}
use Rattle.run_scripts.specs.AskedRuns.{Asked, EndIsOver}

-- what is so of each run that words ask for
abbrev pub OfRuns : (Run → (load : List Call) → (before : List (List ℕ)) → (held : ℕ) → Type 0) → Type 0
OfRuns holds = (words : List (List ℕ)) (plan : Plan) (session : Session) (s : ImageSystem) (rows : Rows) (before : List (List ℕ)) (old : Outside) →
    Asked words plan session s rows before old →
    holds (run_of session s rows old.disk.size before) (session_load session s rows) before (sectors_needed session s rows)

-- THE RUN IS ONE FROM A START, over a layer that meets its laws, which takes over within so many steps; and the sectors behind the run's are the disk's
pub record IsStarted (s : ImageSystem) (r : Run) (held : ℕ) (before : List (List ℕ)) (more : ℕ) : Type 0 where
  pub late : ℕ
  pub within : late ≤ more + 1
  pub starts : StartsFrom (IsTypedState s.unit) r.around r.system r.first late held
  pub beyond : Beyond held before r.first.device.sectors

abbrev pub RunsStart : Type 0
RunsStart = (words : List (List ℕ)) (plan : Plan) (session : Session) (s : ImageSystem) (rows : Rows) (before : List (List ℕ)) (old : Outside) →
    Asked words plan session s rows before old →
    IsStarted s (run_of session s rows old.disk.size before) (sectors_needed session s rows) before (steps_before session.start (booted s rows))

-- and its end, where it comes to one, is one of the abstract run
abbrev pub EndsAreOver : Type 0
EndsAreOver = OfRuns (λ r load before held. EndIsOver r)

-- WHAT THE LAWS SAY of runs
pub record LawsOfRuns : Type 0 where
  pub start : RunsStart
  pub machines : (u : CUnit) → MachinesRun (IsTypedState u)
  pub traces : (u : CUnit) → TracesGrow (IsTypedState u)
  pub count : TurnLaws
  pub rows : RowsFollow

-- and of what scripts leave
pub record ScriptLaws : Type 0 where
  pub blame : ScriptsBlame
  pub tell : ScriptsTell
  pub store : ScriptsStore
  pub calls : ScriptsCount
  pub runs : LawsOfRuns
