-- THE TEXT of a run, what it takes for words and files to ask for one, and where it ends; and that nothing changes where memory was wanted.
use Rattle.std.specs.Prelude.{◌≡◌, ℕ, ◌+◌, ◌≤◌, true, if◌then◌else◌, List, ◌++◌, length, Some}
use Rattle.schedule_file.specs.Rows.{Rows}
use Rattle.cvm_model.specs.Primitives.{user_of}
use Rattle.cvm_model.specs.Cvm.{Cvm, IsCvm}
use Rattle.cvm_model.specs.Text.{rows_text, boot_text, trace_text, start_row, open_journal_rows}
use Rattle.boot_turns.specs.declared.answers.View.{View}
use Rattle.boot_turns.specs.declared.answers.View.TheVariants.{Boot, Trace}
use Rattle.kernel_linker.specs.Accept.{ImageSystem}
use Rattle.run_scripts.specs.declared.exit_status.Status.TheVariants.{Memory}
use Rattle.run_scripts.specs.declared.session.Session.{Session}
use Rattle.run_scripts.specs.Command.{Command, IsCommand}
use Rattle.run_scripts.specs.Plan.{Plan, boots, saves, resumes, PlanComesTo, AllTold}
use Rattle.cvm_outside.specs.Outside.{Outside}
use Rattle.boot_turns.specs.Runs.{Run, Past, turns_at, steps_made, has_ended, lines_met, cvm_at}
use Rattle.run_scripts.specs.Boot.{sectors_needed}
use Rattle.boot_turns.specs.TurnEnds.{first_user_machine, TurnIsOver}
use Rattle.boot_run.specs.RunEnds.{SeesUser}
use Rattle.boot_run.specs.SavedRuns.{IsDisk}
use Rattle.run_scripts.specs.Ends.{Ends, AreBytes}
use Rattle.run_scripts.specs.Served.{files_of}

-- THE TEXT after t steps: the rows of the complete turns; of a trace its first row and those of what is shown, but for a last row of steps
abbrev pub text_by : View → Run → Past → ℕ → List ℕ
text_by Boot r p t = rows_text (cvm_at r p t).rows
text_by (Trace u) r p t = start_row u (first_user_machine r.system u) ++ open_journal_rows (p.shown t)

abbrev pub text_at : Run → Past → ℕ → List ℕ
text_at r p t = text_by r.view r p t

-- the text with the end and the report
abbrev pub ended_text : View → Run → Past → ℕ → List ℕ
ended_text Boot r p t = boot_text r.system (cvm_at r p t)
ended_text (Trace u) r p t = trace_text u (first_user_machine r.system u) (p.shown t) (user_of (cvm_at r p t).core.users u) (cvm_at r p t).status

-- THE WHOLE TEXT of a run
abbrev pub whole_text : Run → Past → List ℕ
whole_text r p = if has_ended r then ended_text r.view r p (steps_made r) else text_at r p (steps_made r)

-- a plan that runs a session: to its end, to be saved, or from where it was saved
pub data IsOf (session : Session) (s : ImageSystem) (rows : Rows) : Plan → Type 0 where
  booted_so : IsOf session s rows (boots session s rows)
  saved_so : (name : List ℕ) → IsOf session s rows (saves session s rows name)
  resumed_so : (words : List ℕ) → IsOf session s rows (resumes session s rows words)

-- WORDS AND FILES ASK for this session of this system under this schedule, over a disk with sectors enough, which has these
pub record Asked (words : List (List ℕ)) (plan : Plan) (session : Session) (s : ImageSystem) (rows : Rows) (before : List (List ℕ)) (old : Outside) :
    Type 0 where
  pub files : AllTold words old.shelf.file
  pub bytes : (c : Command) → IsCommand words c → AreBytes old.shelf.file (files_of c)
  pub is_plan : PlanComesTo words old.shelf.file plan
  pub runs : IsOf session s rows plan
  pub user : SeesUser session.view (length s.users)
  pub sectors : old.disk.sectors ≡ Some before
  pub disk : IsDisk old.disk.size before
  pub enough : sectors_needed session s rows ≤ old.disk.size

-- a run that came to its end has its turns, or an abstract run that is over; and the machine rests as that says, at the abstract run's state there
abbrev pub EndIsOver : Run → Type 0
EndIsOver r = (c : Cvm) → IsCvm r.system (lines_met r) (turns_at r (steps_made r)) c → has_ended r ≡ true →
    TurnIsOver r.around r.system r.first r.turns (steps_made r) c

-- WANT OF MEMORY: where memory was wanted nothing was printed, and no sector and no file changed
pub record Untouched (old new : Outside) : Type 0 where
  pub sink : new.sink ≡ old.sink
  pub disk : new.disk ≡ old.disk
  pub files : (n : List ℕ) → new.shelf.file n ≡ old.shelf.file n

abbrev pub MemoryKeeps : Type 0
MemoryKeeps = (words : List (List ℕ)) (old new : Outside) → Ends words old new Memory → Untouched old new
