-- Only for the contracts inside the crate: what the stages of a command do, by their scripts.
use Rattle.std.specs.Global.{Vec}
use Rattle.std.specs.Prelude.{◌≡◌, ◌≢◌, ◌⊎◌, ◌≤◌, ℕ, List, [], ◌∷◌, ◌++◌, length, Option, None, Some, Result, MatchResult}
use Rattle.cvm_outside.specs.Told.{TOO_LONG}
use Rattle.cvm_outside.specs.Outside.{Outside, Files, Output, Drive, files, output, drive}
use Rattle.cvm_outside.specs.Script.{Call, Who, Performs}
use Rattle.cvm_outside.specs.declared.shelf.Shelf as shelf_of
use Rattle.cvm_outside.specs.declared.sink.Sink as sink_of
use Rattle.cvm_outside.specs.declared.sectors.Sectors as sectors_of
use Rattle.boot_turns.specs.Runs.{Past, IsPast}
use Rattle.boot_run.specs.declared.load.LoadFault.{LoadFault}
use Rattle.boot_run.specs.declared.load.LoadFault.TheVariants as load
use Rattle.boot_run.specs.declared.whole.RunEnd.{RunEnd}
use Rattle.boot_run.specs.Closing.{says}
use Rattle.boot_run.specs.RunCalls.{WholeScript}
use Rattle.boot_run.specs.RunEnds.{SeesUser}
use Rattle.machine_save.specs.SaveCalls.{SavedScript}
use Rattle.kernel_linker.specs.Accept.{image_system}
use Rattle.real_layer.specs.Image.{layer_image}
use Rattle.run_scripts.specs.declared.exit_status.Status.{Status}
use Rattle.run_scripts.specs.declared.exit_status.Status.TheVariants.{Disk, Shelf, Memory}
use Rattle.cvm_shell.specs.declared.boot.Ready.{Ready}
use Rattle.run_scripts.specs.declared.session.Session.{Session}
use Rattle.cvm_shell.specs.declared.boot.Stop.{Stop}
use Rattle.cvm_shell.specs.declared.boot.Stop.TheVariants as stop
use Rattle.cvm_shell.specs.declared.refusal.Refusal.TheVariants as refusal
use Rattle.cvm_shell.specs.Stages.{puts_made, FilesPlan}
use Rattle.cvm_shell.specs.Views.{IfPlan, stated_row, stated_status}
use Rattle.run_scripts.specs.Command.{Command, Save, IsCommand, IsSample, save_session}
use Rattle.run_scripts.specs.Plan.{Plan}
use Rattle.run_scripts.specs.Boot.{booted, start_state, sectors_needed}
use Rattle.run_scripts.specs.SessionRuns.{run_of}
use Rattle.run_scripts.specs.Ends.{Ends, PlanAsks, Joins, IsNotGot, Wants, AreShort, MayBeLong, answered, session_load, as_outside}
use Rattle.run_scripts.specs.Served.{files_of, gets}
use Rattle.run_scripts.specs.RunStatus.{status_of_end}

-- FILES WERE GOT, one after the other, and none is too long
pub record WereGot (names : List (List ℕ)) (old new : Outside) : Type 0 where
  pub performs : Performs (gets names) old new None
  pub short : AreShort old.shelf.file names
  pub few : new.shelf.taken ≢ TOO_LONG

-- one is too long: those up to it were got, and the last took 67,108,865 bytes
pub record IsLong (names : List (List ℕ)) (old new : Outside) : Type 0 where
  pub before : List (List ℕ)
  pub name : List ℕ
  pub after : List (List ℕ)
  pub all : before ++ name ∷ after ≡ names
  pub short : AreShort old.shelf.file before
  pub long : MayBeLong (old.shelf.file name)
  pub performs : Performs (gets (before ++ name ∷ [])) old new None
  pub taken : new.shelf.taken ≡ TOO_LONG

-- which gets were made where a stage stops: all, where a fault of what they hold is refused
abbrev pub StopGets : (names : List (List ℕ)) → (old new : Outside) → Stop → Type 0
StopGets names old new (stop.Refused refusal.TooLong) = IsLong names old new
StopGets names old new (stop.Refused other) = WereGot names old new
StopGets names old new stop.Shelf = IsNotGot names old new
StopGets names old new stop.Memory = Wants names old new

abbrev pub AnswerGets : {T : Type 0} → (names : List (List ℕ)) → (old new : Outside) → Result T Stop → Type 0
AnswerGets names old new result = MatchResult result (λ _. WereGot names old new) (StopGets names old new)

-- THE GETS of a stage, whatever stands beside its shelf
abbrev pub Gets : {S T : Type 0} → shelf_of.Ghosts S → (names : List (List ℕ)) → (old new : S) → Result T Stop → Type 0
Gets told names old new result = (sink : Output) (disk : Drive) →
    AnswerGets names (record { shelf = files told old; sink = sink; disk = disk }) (record { shelf = files told new; sink = sink; disk = disk }) result

-- THE GET of a file, whichever are to be got behind it
abbrev pub GetsFile : {S T : Type 0} → shelf_of.Ghosts S → (name : List ℕ) → (old new : S) → Result T Stop → Type 0
GetsFile told name old new result = (rest : List (List ℕ)) (sink : Output) (disk : Drive) →
    let before : Outside = record { shelf = files told old; sink = sink; disk = disk } in
    let after : Outside = record { shelf = files told new; sink = sink; disk = disk } in
    MatchResult result (λ _. WereGot (name ∷ []) before after) (StopGets (name ∷ rest) before after)

-- a script was performed, up to a call that failed, and the status is the one that was due, or that of the object that failed
pub record Acts (script : List Call) (due : Status) (old new : Outside) (status : Status) : Type 0 where
  pub blamed : Option Who
  pub performs : Performs script old new blamed
  pub status_is : status ≡ answered due blamed

-- A TEXT IS SAID beside a status, whatever stands beside the sink
abbrev pub SaysAs : {O : Type 0} → sink_of.Ghosts O → (due : Status) → (text : List ℕ) → (old new : O) → Status → Type 0
SaysAs told due text old new status = (shelf : Files) (disk : Drive) →
    Acts (says text) due (record { shelf = shelf; sink = output told old; disk = disk }) (record { shelf = shelf; sink = output told new; disk = disk }) status

-- WHY A STAGE STOPPED is said: the row of what is refused, or nothing beside the status
abbrev pub SaysStop : {O : Type 0} → sink_of.Ghosts O → Stop → (old new : O) → Status → Type 0
SaysStop told (stop.Refused r) old new status = SaysAs told (stated_status r) (stated_row r) old new status
SaysStop told stop.Shelf old new status = (new ≡ old) × (status ≡ Shelf)
SaysStop told stop.Memory old new status = (new ≡ old) × (status ≡ Memory)

-- WHY NO RUN WAS BEGUN is said in the same way, or the disk failed in the load
abbrev pub SaysFault : {O : Type 0} → sink_of.Ghosts O → LoadFault → (old new : O) → Status → Type 0
SaysFault told (load.SmallDisk need have) old new status = SaysStop told (stop.Refused (refusal.SmallDisk need have)) old new status
SaysFault told (load.NoSuchUser user users) old new status = SaysStop told (stop.Refused (refusal.NoSuchUser user users)) old new status
SaysFault told load.Disk old new status = (new ≡ old) × (status ≡ Disk)
SaysFault told load.Memory old new status = SaysStop told stop.Memory old new status

-- HOW A RUN ENDED is told by the status alone; or it is said why none was begun
abbrev pub SaysEnd : {O : Type 0} → sink_of.Ghosts O → Result RunEnd LoadFault → (old new : O) → Status → Type 0
SaysEnd told answer old new status =
    MatchResult answer (λ end. (new ≡ old) × (status ≡ status_of_end end)) (λ fault. SaysFault told fault old new status)

-- WHAT WAS DONE of a plan, behind the gets
pub record DoesPlan (p : Plan) (old new : Outside) (status : Status) : Type 0 where
  pub script : List Call
  pub due : Status
  pub asks : PlanAsks p old script due
  pub blamed : Option Who
  pub performs : Performs script old new blamed
  pub joins : Joins p old new blamed due
  pub status_is : status ≡ answered due blamed

-- how a command ends over a shelf and a sink, whatever the disk, which it leaves alone
abbrev pub CommandDoes : {S O : Type 0} → shelf_of.Ghosts S → sink_of.Ghosts O → Command → Status → (old new : S × O) → Type 0
CommandDoes shelf sink c status (s, o) (s', o') = (words : List (List ℕ)) (disk : Drive) → IsCommand words c → Ends words
    (record { shelf = files shelf s; sink = output sink o; disk = disk }) (record { shelf = files shelf s'; sink = output sink o'; disk = disk }) status

-- WHAT A STAGE MADE IS PUT under a name, or it is said why the stage stopped: so the command ends whose stage it was, from the shelf that it began with
abbrev pub PutsMade : {S O : Type 0} → shelf_of.Ghosts S → sink_of.Ghosts O → (name : List ℕ) → Result (Vec ℕ) Stop → Status → (old new : S × O) → Type 0
PutsMade {S} shelf sink name made status (s, o) (s', o') = (words : List (List ℕ)) (c : Command) (first : S) (disk : Drive) → IsCommand words c →
    Gets shelf (files_of c) first s made → IfPlan (puts_made name) (FilesPlan layer_image (shelf.file first) c) made → Ends words
    (record { shelf = files shelf first; sink = output sink o; disk = disk }) (record { shelf = files shelf s'; sink = output sink o'; disk = disk }) status

-- and over a disk
abbrev pub RunDoes : {S O D : Type 0} → shelf_of.Ghosts S → sink_of.Ghosts O → sectors_of.Ghosts D → Command → Status → (old new : S × O × D) → Type 0
RunDoes shelf sink disk c status (s, o, d) (s', o', d') = (words : List (List ℕ)) → IsCommand words c →
    Ends words (as_outside shelf sink disk s o d) (as_outside shelf sink disk s' o' d') status

-- a plan is done; or there was no memory, and nothing is called
abbrev pub DoesOrWants : Plan → (old new : Outside) → Status → Type 0
DoesOrWants p old new status = DoesPlan p old new status ⊎ ((status ≡ Memory) × (new ≡ old))

-- what is done of a plan over a sink and a disk, whatever the files, which it leaves alone
abbrev pub SystemDoes : {O D : Type 0} → sink_of.Ghosts O → sectors_of.Ghosts D → Plan → Status → (old new : O × D) → Type 0
SystemDoes sink disk p status (o, d) (o', d') = (shelf : Files) → DoesOrWants p
    (record { shelf = shelf; sink = output sink o; disk = drive disk d }) (record { shelf = shelf; sink = output sink o'; disk = drive disk d' }) status

-- and over a shelf
abbrev pub SaveDoes : {S O D : Type 0} → shelf_of.Ghosts S → sink_of.Ghosts O → sectors_of.Ghosts D → Plan → Status → (old new : S × O × D) → Type 0
SaveDoes shelf sink disk p status (s, o, d) (s', o', d') = DoesOrWants p (as_outside shelf sink disk s o d) (as_outside shelf sink disk s' o' d') status

-- how a sample ends, whatever the files
abbrev pub SampleDoes : {O D : Type 0} → sink_of.Ghosts O → sectors_of.Ghosts D → (number : ℕ) → Status → (old new : O × D) → Type 0
SampleDoes sink disk number status (o, d) (o', d') = (words : List (List ℕ)) (shelf : Files) → IsSample words (record { number = number }) → Ends words
    (record { shelf = shelf; sink = output sink o; disk = drive disk d }) (record { shelf = shelf; sink = output sink o'; disk = drive disk d' }) status

-- THE CALLS of a session's run, over a sink and a disk
abbrev pub SessionCalls : {O D : Type 0} → sink_of.Ghosts O → sectors_of.Ghosts D → Ready → Session → Result RunEnd LoadFault → (old new : O × D) → Type 0
SessionCalls text told r session answer old new =
    WholeScript text told (booted (image_system r.boot) r.schedule) r.schedule (start_state session (image_system r.boot) r.schedule)
    session.view session.turns session.steps (session_load session (image_system r.boot) r.schedule) old new answer

-- the abstract machine says something of each run of a session over a disk of so many sectors, where they are told
abbrev pub SessionPasts : Ready → Session → (size : ℕ) → (told : Option (List (List ℕ))) → Type 0
SessionPasts r session size told = (sectors : List (List ℕ)) → told ≡ Some sectors → SeesUser session.view (length (image_system r.boot).users) →
    sectors_needed session (image_system r.boot) r.schedule ≤ size →
    (p : Past) × IsPast (run_of session (image_system r.boot) r.schedule size sectors) p

-- THE CALLS of a run that is to be saved, over a shelf, a sink and a disk
abbrev pub SavedCalls : {S O D : Type 0} → shelf_of.Ghosts S → sink_of.Ghosts O → sectors_of.Ghosts D → Ready → Save → Result RunEnd LoadFault →
    (old new : S × O × D) → Type 0
SavedCalls shelf text told r c answer old new =
    SavedScript shelf text told (booted (image_system r.boot) r.schedule) r.schedule (start_state (save_session c) (image_system r.boot) r.schedule)
    c.boot.turns c.boot.steps (session_load (save_session c) (image_system r.boot) r.schedule) c.file old new answer
