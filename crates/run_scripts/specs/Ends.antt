-- HOW A COMMAND ENDS: the script that its words ask for, how far it was performed, and the status.
use Rattle.std.specs.Prelude.{◌≡◌, ◌≢◌, ℕ, ◌-◌, ◌<◌, ◌≤◌, ⊤, All, List, [], ◌∷◌, ◌++◌, length, codes, Option, Some, None, IfSome}
use Rattle.cvm_outside.specs.Told.{TOO_LONG}
use Rattle.schedule_file.specs.Rows.{Rows}
use Rattle.mips_table.specs.Machine.{State}
use Rattle.mips_machine.specs.Saved.{saved, CanBeSaved}
use Rattle.boot_turns.specs.declared.answers.View.TheVariants.{Trace}
use Rattle.kernel_linker.specs.Accept.{ImageSystem}
use Rattle.run_scripts.specs.declared.exit_status.Status.{Status}
use Rattle.run_scripts.specs.declared.exit_status.Status.TheVariants.{Done, Words, Refused, Disk, Shelf, Sink, Memory}
use Rattle.run_scripts.specs.declared.session.Session.{Session}
use Rattle.run_scripts.specs.Command.{Command, IsCommand}
use Rattle.run_scripts.specs.Refusal.{small_disk, no_such_user, too_long, refusal_text, refusal_status}
use Rattle.run_scripts.specs.Plan.{Plan, bad_words, refuses, puts, boots, saves, resumes, prints as tells, PlanComesTo, AllTold, IsPlan}
use Rattle.cvm_outside.specs.Script.{Call, Stored, Who, TheSink, TheDisk, TheShelf, Performs, ShelfCalled}
use Rattle.cvm_outside.specs.declared.shelf.Shelf as shelf_of
use Rattle.cvm_outside.specs.declared.sink.Sink as sink_of
use Rattle.cvm_outside.specs.declared.sectors.Sectors as sectors_of
use Rattle.cvm_outside.specs.Outside.{Outside, files, output, drive}
use Rattle.boot_turns.specs.LoopScripts.{AreOfRun}
use Rattle.boot_turns.specs.Runs.{Run, Past, IsPast, state_at, steps_made, has_ended}
use Rattle.run_scripts.specs.Boot.{booted, sectors_needed}
use Rattle.boot_run.specs.LoadScript.{load_script}
use Rattle.boot_run.specs.RunEnds.{SeesUser}
use Rattle.boot_run.specs.SavedRuns.{IsDisk}
use Rattle.boot_run.specs.Closing.{says}
use Rattle.run_scripts.specs.SessionRuns.{run_of, pages_loaded}
use Rattle.boot_run.specs.AnyScripts.{power_end, IsReport, untold_rest}
use Rattle.boot_run.specs.RunScript.{WasSaved, run_script, rest_script, save_script, put_script}
use Rattle.run_scripts.specs.RunStatus.{IsRunStatus, run_status, power_status}
use Rattle.run_scripts.specs.Served.{files_of, gets}

-- THE LOAD of a session
abbrev pub session_load : Session → ImageSystem → Rows → List Call
session_load session s rows = load_script (pages_loaded session.start (booted s rows)) (sectors_needed session s rows)

-- WHAT A RUN IS TO DO, to its end or to be saved: its script, and its status where no call fails, by what the abstract machine says of it
pub record RunAsks (r : Run) (scripted : Run → Past → List Call) (script : List Call) (status : Status) : Type 0 where
  pub past : Past
  pub is_past : IsPast r past
  pub script_is : script ≡ scripted r past
  pub status_is : status ≡ run_status r past

-- the run that goes on from the machine that words name, over a disk with these sectors, for the turns and the steps that are left
pub record GoesOn (session : Session) (s : ImageSystem) (rows : Rows) (words : List ℕ) (size : ℕ) (sectors : List (List ℕ)) (r : Run) : Type 0 where
  pub machine : State
  pub done : ℕ
  pub user : ℕ
  pub ready : CanBeSaved rows.inputs machine
  pub named : saved rows.inputs machine done user ≡ words
  pub over : machine.device.sectors ≡ sectors
  pub is : r ≡ record (run_of session s rows size sectors) { first = machine; turns = session.turns - done; steps = session.steps - machine.time }

-- WHAT A RESUME IS TO DO, whatever its file holds: the machine's own transfers; of the text nothing is said
pub record ResumeAsks (session : Session) (s : ImageSystem) (rows : Rows) (words : List ℕ) (size : ℕ) (sectors : List (List ℕ)) (script : List Call)
    (status : Status) : Type 0 where
  pub run : Run
  pub goes_on : GoesOn session s rows words size sectors run
  pub report : List Call
  pub is_report : IsReport (power_end run) report
  pub script_is : script ≡ untold_rest run 0 ++ report
  pub status_is : status ≡ power_status (has_ended run) (state_at run (steps_made run)).off

-- over a disk that tells no sectors: the load, and then some calls of a run
abbrev pub SomeRunAsks : (load : List Call) → List Call → Status → Type 0
SomeRunAsks load script status = (more : List Call) × AreOfRun more × (script ≡ load ++ more) × IsRunStatus status

-- and of a save one file and the row at the end, where it is done
pub data SomeSaveAsks (name : List ℕ) (load : List Call) : List Call → Status → Type 0 where
  as_boot : (script : List Call) (status : Status) → SomeRunAsks load script status → SomeSaveAsks name load script status
  is_saved : (more : List Call) (bytes : List ℕ) → AreOfRun more →
      SomeSaveAsks name load (load ++ more ++ put_script name bytes) Done

-- WHAT A SESSION IS TO DO: refuse a user that there is none of, or a disk that is too small; or the run, over sectors that are told or not
pub data SessionAsks (session : Session) (s : ImageSystem) (rows : Rows) (old : Outside) (Told : List (List ℕ) → List Call → Status → Type 0)
    (Some_ : List Call → Status → Type 0) : List Call → Status → Type 0 where
  no_user : (u : ℕ) → session.view ≡ Trace u → (SeesUser session.view (length s.users) → ⊥) →
      SessionAsks session s rows old Told Some_ (says (refusal_text (no_such_user u (length s.users)))) Refused
  small : SeesUser session.view (length s.users) → old.disk.size < sectors_needed session s rows →
      SessionAsks session s rows old Told Some_ (says (refusal_text (small_disk (sectors_needed session s rows) old.disk.size))) Disk
  over_told : (sectors : List (List ℕ)) (script : List Call) (status : Status) → SeesUser session.view (length s.users) →
      sectors_needed session s rows ≤ old.disk.size → old.disk.sectors ≡ Some sectors → Told sectors script status →
      SessionAsks session s rows old Told Some_ script status
  over_untold : (script : List Call) (status : Status) → SeesUser session.view (length s.users) → sectors_needed session s rows ≤ old.disk.size →
      old.disk.sectors ≡ None → Some_ script status → SessionAsks session s rows old Told Some_ script status

-- WHAT A PLAN IS TO DO behind the gets: its script, and its status where no call fails
abbrev pub PlanAsks : Plan → Outside → List Call → Status → Type 0
PlanAsks bad_words old script status = (script ≡ says (codes "bad words\n")) × (status ≡ Words)
PlanAsks (refuses r) old script status = (script ≡ says (refusal_text r)) × (status ≡ refusal_status r)
PlanAsks (puts name bytes) old script status = (script ≡ Stored name bytes ∷ []) × (status ≡ Done)
PlanAsks (tells text) old script status = (script ≡ says text) × (status ≡ Done)
PlanAsks (boots session s rows) old script status =
    SessionAsks session s rows old (λ sectors. RunAsks (run_of session s rows old.disk.size sectors) (λ r. run_script r (session_load session s rows)))
    (SomeRunAsks (session_load session s rows)) script status
PlanAsks (saves session s rows name) old script status =
    SessionAsks session s rows old (λ sectors. RunAsks (run_of session s rows old.disk.size sectors) (λ r. save_script name r (session_load session s rows)))
    (SomeSaveAsks name (session_load session s rows)) script status
PlanAsks (resumes session s rows words) old script status =
    SessionAsks session s rows old (ResumeAsks session s rows words old.disk.size) (SomeRunAsks []) script status

-- a file may be too long, or not
abbrev pub MayBeLong : Option (List ℕ) → Type 0
MayBeLong told = IfSome told (λ bytes. TOO_LONG ≤ length bytes)

abbrev pub MayBeShort : Option (List ℕ) → Type 0
MayBeShort told = IfSome told (λ bytes. length bytes < TOO_LONG)

abbrev pub AreShort : (List ℕ → Option (List ℕ)) → List (List ℕ) → Type 0
AreShort file [] = ⊤
AreShort file (name ∷ rest) = MayBeShort (file name) × AreShort file rest

-- THE GETS before a plan: all; or where a file is too long those up to it, of which the last took 67,108,865 bytes
pub data GetsFor (file : List ℕ → Option (List ℕ)) (names : List (List ℕ)) (taken : ℕ) : Plan → List Call → Type 0 where
  all : (p : Plan) → p ≢ refuses too_long → (names ≢ [] → taken ≢ TOO_LONG) → GetsFor file names taken p (gets names)
  up_to : (before after : List (List ℕ)) (name : List ℕ) → before ++ name ∷ after ≡ names → AreShort file before → MayBeLong (file name) → taken ≡ TOO_LONG →
      GetsFor file names taken (refuses too_long) (gets (before ++ name ∷ []))

-- the gets of words that are no command are none
abbrev pub CommandGets : List (List ℕ) → (List ℕ → Option (List ℕ)) → (taken : ℕ) → Plan → List Call → Type 0
CommandGets words file taken p script =
    ((c : Command) → IsCommand words c → GetsFor file (files_of c) taken p script) × (p ≡ bad_words → script ≡ [])

-- a file is of bytes, where it is told
abbrev pub IsByte : ℕ → Type 0
IsByte b = b < 256

abbrev pub AreBytes : (List ℕ → Option (List ℕ)) → List (List ℕ) → Type 0
AreBytes file [] = ⊤
AreBytes file (name ∷ rest) = IfSome (file name) (All IsByte) × AreBytes file rest

-- WHAT A RUN FINDS where it is told: the files that were got are of bytes, and there are as many sectors as the disk has, of 1,024 words each
pub record RunIsFound (words : List (List ℕ)) (old : Outside) : Type 0 where
  pub files : (c : Command) → IsCommand words c → AreBytes old.shelf.file (files_of c)
  pub disk : IfSome old.disk.sectors (IsDisk old.disk.size)

abbrev pub PlanFinds : Plan → List (List ℕ) → Outside → Type 0
PlanFinds (boots session s rows) words old = RunIsFound words old
PlanFinds (saves session s rows name) words old = RunIsFound words old
PlanFinds (resumes session s rows machine) words old = RunIsFound words old
PlanFinds other words old = ⊤

-- by whose call an answer goes: the status that was due, or that of the object that failed
abbrev pub answered : Status → Option Who → Status
answered due None = due
answered due (Some TheSink) = Sink
answered due (Some TheDisk) = Disk
answered due (Some TheShelf) = Shelf

-- A RUN OF THIS SESSION WAS SAVED in these words, over a disk of as many sectors
pub record SavedRun (session : Session) (s : ImageSystem) (rows : Rows) (words : List ℕ) (size : ℕ) (left : List (List ℕ)) (r : Run) (past : Past) (made : ℕ) :
    Type 0 where
  pub sectors : List (List ℕ)
  pub run_is : r ≡ run_of session s rows size sectors
  pub disk : IsDisk size sectors
  pub saved : WasSaved r past words left made

-- THE SAME RESUME goes on as every run that was saved so: it performs the rest of that boot's script, with its texts, and has its status
abbrev pub Joins : Plan → (old new : Outside) → Option Who → Status → Type 0
Joins (resumes session s rows words) old new blamed due =
    (left : List (List ℕ)) (r : Run) (past : Past) (made : ℕ) → sectors_needed session s rows ≤ old.disk.size → old.disk.sectors ≡ Some left →
    SavedRun session s rows words old.disk.size left r past made →
    Performs (rest_script r past made) old new blamed × (answered due blamed ≡ answered (run_status r past) blamed)
Joins other old new blamed due = ⊤

-- A FILE COULD NOT BE GOT: it took no 67,108,865 bytes, those before it were got, and none of them is too long
pub record IsNotGot (names : List (List ℕ)) (old new : Outside) : Type 0 where
  pub before : List (List ℕ)
  pub name : List ℕ
  pub after : List (List ℕ)
  pub all : before ++ name ∷ after ≡ names
  pub short : AreShort old.shelf.file before
  pub performs : Performs (gets (before ++ name ∷ [])) old new (Some TheShelf)
  pub few : new.shelf.taken ≢ TOO_LONG

-- WANT OF MEMORY, before all else is done: some of the gets were made, of which no file is too long; or one more found no memory, is counted, and took no
-- 67,108,865 bytes
pub data GetWants (old new : Outside) : Type 0 where
  wants : ((n : List ℕ) → new.shelf.file n ≡ old.shelf.file n) → new.shelf.faults ≡ old.shelf.faults → new.shelf.taken ≢ TOO_LONG →
      new ≡ record old { shelf = new.shelf } → ShelfCalled old.shelf new.shelf → GetWants old new

pub data Wants (names : List (List ℕ)) (old new : Outside) : Type 0 where
  behind : (made rest : List (List ℕ)) → made ++ rest ≡ names → AreShort old.shelf.file made → Performs (gets made) old new None →
      (names ≢ [] → new.shelf.taken ≢ TOO_LONG) → Wants names old new
  within : (made rest : List (List ℕ)) (name : List ℕ) (mid : Outside) → made ++ name ∷ rest ≡ names → AreShort old.shelf.file made →
      Performs (gets made) old mid None → GetWants mid new → Wants names old new

-- WHAT WAS DONE: the gets and the plan's script were performed, up to a call that failed
pub record WasDone (words : List (List ℕ)) (old new : Outside) (status : Status) : Type 0 where
  pub plan : Plan
  pub is_plan : IsPlan (AllTold words old.shelf.file) (PlanComesTo words old.shelf.file) plan
  pub got : List Call
  pub gets : CommandGets words old.shelf.file new.shelf.taken plan got
  pub mid : Outside
  pub files : Performs got old mid None
  pub finds : PlanFinds plan words old
  pub script : List Call
  pub due : Status
  pub asks : PlanAsks plan mid script due
  pub blamed : Option Who
  pub performs : Performs script mid new blamed
  pub joins : Joins plan mid new blamed due
  pub status_is : status ≡ answered due blamed

-- HOW A COMMAND ENDS: so; or a file could not be got; or memory was wanted before a file was put, a text printed, or the disk called
pub data Ends (words : List (List ℕ)) (old new : Outside) : Status → Type 0 where
  done : (status : Status) → WasDone words old new status → Ends words old new status
  no_file : (c : Command) → IsCommand words c → IsNotGot (files_of c) old new → Ends words old new Shelf
  no_memory : (c : Command) → IsCommand words c → Wants (files_of c) old new → Ends words old new Memory

-- the three objects of a command as one outside
abbrev pub as_outside : {S O D : Type 0} → shelf_of.Ghosts S → sink_of.Ghosts O → sectors_of.Ghosts D → S → O → D → Outside
as_outside shelf sink disk s o d = record { shelf = files shelf s; sink = output sink o; disk = drive disk d }
