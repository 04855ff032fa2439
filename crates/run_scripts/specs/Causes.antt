-- WHY A STATUS IS WHAT IT IS, as laws.
use Rattle.std.specs.Prelude.{◌≡◌, ◌≢◌, ◌⊎◌, ℕ, ◌<◌, ◌≤◌, false, List, [], length, codes, Option, Some, None}
use Rattle.std.specs.Io.KnownBytes.{append_known}
use Rattle.cvm_outside.specs.Told.{TOO_LONG, retold}
use Rattle.schedule_file.specs.Rows.{Rows}
use Rattle.boot_turns.specs.declared.answers.View.TheVariants.{Trace}
use Rattle.kernel_linker.specs.Accept.{ImageSystem}
use Rattle.run_scripts.specs.declared.session.Session.{Session}
use Rattle.run_scripts.specs.declared.exit_status.Status.{Status}
use Rattle.run_scripts.specs.declared.exit_status.Status.TheVariants.{Done, Words, Refused, KernelFault, StepLimit, Disk, Shelf, Sink, Memory}
use Rattle.run_scripts.specs.Command.{Command, IsCommand, IsNoCommand}
use Rattle.run_scripts.specs.Refusal.{Refusal, small_disk, no_such_user, too_long, refusal_status, refusal_text}
use Rattle.run_scripts.specs.Plan.{Plan, refuses, puts, boots, saves, resumes, prints as tells, PlanComesTo, AllTold, IsPlan}
use Rattle.cvm_outside.specs.Script.{Who, TheSink, TheDisk, TheShelf}
use Rattle.cvm_outside.specs.Outside.{Outside, Files, Output}
use Rattle.cvm_outside.specs.ScriptLaws.{Blamed, PrintedBy}
use Rattle.boot_turns.specs.Runs.{Run, steps_made, has_ended}
use Rattle.run_scripts.specs.Boot.{sectors_needed}
use Rattle.boot_run.specs.RunEnds.{SeesUser}
use Rattle.run_scripts.specs.RunStatus.{IsRunStatus}
use Rattle.run_scripts.specs.Ends.{Ends}
use Rattle.run_scripts.specs.Served.{files_of, ServesWords, NoneFailed}
use Rattle.run_scripts.specs.AskedRuns.{IsOf}

-- this object counted one fault more, or none did where it is none; and the counts of all others are as before
abbrev pub FaultRose : Option Who → (old new : Outside) → Type 0
FaultRose blamed old new = (whom : Who) → Blamed old new blamed whom

-- the run that a plan is needs more sectors than there are
abbrev pub NeedsMore : Plan → (size : ℕ) → Type 0
NeedsMore (boots session s rows) size = size < sectors_needed session s rows
NeedsMore (saves session s rows name) size = size < sectors_needed session s rows
NeedsMore (resumes session s rows words) size = size < sectors_needed session s rows
NeedsMore other size = ⊥

-- the plan is a run, of a user that there is and over sectors enough
abbrev pub RunsOver : Session → ImageSystem → Rows → (size : ℕ) → Type 0
RunsOver session s rows size = SeesUser session.view (length s.users) × (sectors_needed session s rows ≤ size)

abbrev pub IsRun : Plan → (size : ℕ) → Type 0
IsRun (boots session s rows) size = RunsOver session s rows size
IsRun (saves session s rows name) size = RunsOver session s rows size
IsRun (resumes session s rows words) size = RunsOver session s rows size
IsRun other size = ⊥

-- or it loads nothing and refuses nothing
abbrev pub IsWork : Plan → Type 0
IsWork (puts name bytes) = Unit {0}
IsWork (tells text) = Unit {0}
IsWork other = ⊥

-- words and files come to a plan of which this is so: the one, where files are told
pub record HasPlan (words : List (List ℕ)) (old : Outside) (Is : Plan → Type 0) : Type 0 where
  pub plan : Plan
  pub is_plan : IsPlan (AllTold words old.shelf.file) (PlanComesTo words old.shelf.file) plan
  pub is : Is plan

abbrev pub IsTooSmall : (words : List (List ℕ)) (old : Outside) → Type 0
IsTooSmall words old = HasPlan words old (λ p. NeedsMore p old.disk.size)

-- a file is too long, which the plan refuses, and of which 67,108,865 bytes were taken
pub record IsTooLong (words : List (List ℕ)) (old new : Outside) : Type 0 where
  pub is_plan : IsPlan (AllTold words old.shelf.file) (PlanComesTo words old.shelf.file) (refuses too_long)
  pub taken : new.shelf.taken ≡ TOO_LONG

-- BY THE STATUS, over any outside: an object failed and counted one fault, or the disk is too small, or a file is too long; else no count changed, and 3 and 4
-- come of a run, 0 of one or of a plan that loads nothing
abbrev pub CausedBy : Status → List (List ℕ) → (old new : Outside) → Type 0
CausedBy Disk words old new = FaultRose (Some TheDisk) old new ⊎ (FaultRose None old new × IsTooSmall words old)
CausedBy Shelf words old new = FaultRose (Some TheShelf) old new ⊎ (FaultRose None old new × IsTooLong words old new)
CausedBy Sink words old new = FaultRose (Some TheSink) old new
CausedBy Done words old new = FaultRose None old new × HasPlan words old (λ p. IsWork p ⊎ IsRun p old.disk.size)
CausedBy KernelFault words old new = FaultRose None old new × HasPlan words old (λ p. IsRun p old.disk.size)
CausedBy StepLimit words old new = FaultRose None old new × HasPlan words old (λ p. IsRun p old.disk.size)
CausedBy other words old new = FaultRose None old new

abbrev pub StatusesAreCaused : Type 0
StatusesAreCaused = (words : List (List ℕ)) (old new : Outside) (status : Status) → Ends words old new status → CausedBy status words old new

-- A REFUSAL yields to 7: its row was printed, and the status is its own; or the sink failed in the row, took a part of it, and the status is 7
abbrev pub RefusedWith : (due : Status) → (row : List ℕ) → (old new : Outside) → Status → Type 0
RefusedWith due row old new status = ((status ≡ due) × PrintedBy None old.sink.text new.sink.text row)
    ⊎ ((status ≡ Sink) × PrintedBy (Some TheSink) old.sink.text new.sink.text row)

-- STATUS 1 exactly where the words are no command, with its row
pub record WordsExactly (words : List (List ℕ)) (old new : Outside) (status : Status) : Type 0 where
  pub only : status ≡ Words → IsNoCommand words
  pub so : IsNoCommand words → RefusedWith Words (codes "bad words\n") old new status

abbrev pub WordsAreRefused : Type 0
WordsAreRefused = (words : List (List ℕ)) (old new : Outside) (status : Status) → Ends words old new status → WordsExactly words old new status

-- the user of a trace is none of the image's, and that is what is refused
pub record HasNoUser (words : List (List ℕ)) (old : Outside) (r : Refusal) : Type 0 where
  pub session : Session
  pub system : ImageSystem
  pub rows : Rows
  pub user : ℕ
  pub is_plan : PlanComesTo words old.shelf.file (boots session system rows)
  pub view : session.view ≡ Trace user
  pub none : SeesUser session.view (length system.users) → ⊥
  pub is : r ≡ no_such_user user (length system.users)

-- A FILE IS REFUSED with the status and the row of its fault, where the files are got and memory is there; and status 2 is such a refusal, or a user that
-- there is none of
pub record RefusedExactly (words : List (List ℕ)) (old new : Outside) (status : Status) : Type 0 where
  pub so : (r : Refusal) → PlanComesTo words old.shelf.file (refuses r) → ServesWords words old new → status ≢ Memory →
      RefusedWith (refusal_status r) (refusal_text r) old new status
  pub only : status ≡ Refused → (r : Refusal) × (PlanComesTo words old.shelf.file (refuses r) ⊎ HasNoUser words old r)
      × PrintedBy None old.sink.text new.sink.text (refusal_text r)

abbrev pub FilesAreRefused : Type 0
FilesAreRefused = (words : List (List ℕ)) (old new : Outside) (status : Status) → AllTold words old.shelf.file → Ends words old new status →
    RefusedExactly words old new status

-- A USER THAT THERE IS NONE OF is refused, and then a disk that is too small, where the files are got and memory is there
abbrev pub MissingUsersAreRefused : Type 0
MissingUsersAreRefused = (words : List (List ℕ)) (old new : Outside) (status : Status) (r : Refusal) → AllTold words old.shelf.file →
    HasNoUser words old r → ServesWords words old new → Ends words old new status → status ≢ Memory →
    RefusedWith Refused (refusal_text r) old new status

abbrev pub SmallDisksAreRefused : Type 0
SmallDisksAreRefused = (words : List (List ℕ)) (plan : Plan) (session : Session) (s : ImageSystem) (rows : Rows) (old new : Outside) (status : Status) →
    AllTold words old.shelf.file → PlanComesTo words old.shelf.file plan → IsOf session s rows plan → SeesUser session.view (length s.users) →
    old.disk.size < sectors_needed session s rows → ServesWords words old new → Ends words old new status → status ≢ Memory →
    RefusedWith Disk (refusal_text (small_disk (sectors_needed session s rows) old.disk.size)) old new status

-- A FILE IS REFUSED AS TOO LONG, with its row, where 67,108,865 bytes of it were taken
abbrev pub LongFilesAreRefused : Type 0
LongFilesAreRefused = (words : List (List ℕ)) (c : Command) (old new : Outside) (status : Status) → IsCommand words c → files_of c ≢ [] →
    Ends words old new status → new.shelf.taken ≡ TOO_LONG → RefusedWith Shelf (refusal_text too_long) old new status

-- STATUS 4: a run that didn't come to its end made all its steps
abbrev pub StepsAreSpent : Type 0
StepsAreSpent = (r : Run) → has_ended r ≡ false → steps_made r ≡ r.steps

-- STATUSES 0, 3 AND 4: with no failed call each run that words and files ask for has one of these, over a disk that tells its sectors or none
abbrev pub RunsEnd : Type 0
RunsEnd = (words : List (List ℕ)) (old new : Outside) (status : Status) (p : Plan) → AllTold words old.shelf.file →
    PlanComesTo words old.shelf.file p → IsRun p old.disk.size → NoneFailed words old new → Ends words old new status → status ≢ Memory → IsRunStatus status

-- an output behind which a text was printed
abbrev pub with_text : Output → (text : List ℕ) → Output
with_text sink text = record sink { text = append_known sink.text text }

-- WHAT WORK LEAVES: the file that is put has these bytes, and nothing is printed; or this text is printed, and no file has other bytes than it had
abbrev pub WorkLeaves : Plan → (old new : Outside) → Type 0
WorkLeaves (puts name bytes) old new = (new.shelf.file name ≡ retold (old.shelf.file name) bytes) × (new.sink ≡ old.sink)
WorkLeaves (tells text) old new = (new.sink ≡ with_text old.sink text) × ((n : List ℕ) → new.shelf.file n ≡ old.shelf.file n)
WorkLeaves other old new = ⊥

-- COMPLETENESS of the other commands: with nothing to refuse and no failed call they are done, and leave this (of other files and the disk: Shapes)
abbrev pub WorkCompletes : Type 0
WorkCompletes = (words : List (List ℕ)) (old new : Outside) (status : Status) (p : Plan) → AllTold words old.shelf.file →
    PlanComesTo words old.shelf.file p → IsWork p → NoneFailed words old new → Ends words old new status → status ≢ Memory →
    (status ≡ Done) × WorkLeaves p old new
