-- WHAT IS SAID OF A COMMAND BY ITS RUN and what the abstract machine says of it: the steps to the promises, which speak of machines.
use Rattle.std.specs.Prelude.{◌≡◌, ◌≢◌, ◌⊎◌, ℕ, ◌+◌, ◌≤◌, true, List, Option, Some, ◌<◌, ◌^◌, ◌++◌, codes, Ok}
use Rattle.std.specs.Io.KnownBytes.{append_known}
use Rattle.schedule_file.specs.Rows.{Rows}
use Rattle.cvm_model.specs.Cvm.{Cvm, IsCvm, cvm}
use Rattle.cvm_model.specs.Journal.{journal, replay}
use Rattle.cvm_model.specs.Primitives.{user_of}
use Rattle.layer_contract.specs.Starts.{Beyond}
use Rattle.boot_turns.specs.GoesOn.{GoesOnWithin}
use Rattle.boot_turns.specs.declared.answers.View.TheVariants.{Trace}
use Rattle.kernel_linker.specs.Accept.{ImageSystem}
use Rattle.run_scripts.specs.declared.exit_status.Status.{Status}
use Rattle.run_scripts.specs.declared.exit_status.Status.TheVariants.{Done, KernelFault, Memory}
use Rattle.run_scripts.specs.declared.session.Session.{Session}
use Rattle.run_scripts.specs.Plan.{Plan, boots, saves, resumes, boot_of_image}
use Rattle.cvm_outside.specs.Outside.{Outside}
use Rattle.boot_turns.specs.Runs.{Run, Past, IsPast, state_at, turns_at, steps_made, has_ended, lines_met, cvm_at}
use Rattle.run_scripts.specs.Boot.{booted, sectors_needed, steps_before}
use Rattle.boot_turns.specs.TurnEnds.{first_user_machine}
use Rattle.run_scripts.specs.SessionRuns.{run_of}
use Rattle.run_scripts.specs.RunStatus.{run_status}
use Rattle.run_scripts.specs.Ends.{Ends}
use Rattle.run_scripts.specs.Served.{NoneFailed}
use Rattle.run_scripts.specs.AskedRuns.{whole_text, Asked, EndIsOver, text_at}
use Rattle.cvm_model.specs.Kernel.{MeaningLaws}
use Rattle.cvm_outside.specs.Script.{spoken, sectors_after}
use Rattle.boot_run.specs.RunScript.{run_script, saved_words, saved_row, saved_bytes}
use Rattle.boot_run.specs.SavedFiles.{wanted_of}
use Rattle.run_scripts.specs.Keys.{OfRuns}
use Rattle.cvm_outside.specs.Told.{retold}
use Rattle.saved_file.specs.Answer.{answer as machine_of}
use Rattle.run_scripts.specs.Command.{Save, IsSave, IsResume, save_session}
use Rattle.run_scripts.specs.Resumes.{Resumed}
use Rattle.run_scripts.specs.Faults.{IsLeft}

-- THE SECTORS are those of the machine where the run is left, and those behind the run's are as before
pub record Sectors (r : Run) (held : ℕ) (before : List (List ℕ)) (t : ℕ) (now : Option (List (List ℕ))) : Type 0 where
  pub are : now ≡ Some (state_at r t).device.sectors
  pub beyond : Beyond held before (state_at r t).device.sectors

-- THE HEADLINE: sectors, status and text, and that an end is one of the abstract run
pub record Headline (r : Run) (held : ℕ) (before : List (List ℕ)) (old new : Outside) (status : Status) : Type 0 where
  pub past : Past
  pub is_past : IsPast r past
  pub machine : Sectors r held before (steps_made r) new.disk.sectors
  pub status_is : status ≡ run_status r past
  pub text : new.sink.text ≡ append_known old.sink.text (whole_text r past)
  pub over : EndIsOver r

abbrev pub Headlines : Type 0
Headlines = (words : List (List ℕ)) (session : Session) (s : ImageSystem) (rows : Rows) (before : List (List ℕ)) (old new : Outside) (status : Status) →
    Asked words (boots session s rows) session s rows before old → NoneFailed words old new → Ends words old new status → status ≢ Memory →
    Headline (run_of session s rows old.disk.size before) (sectors_needed session s rows) before old new status

-- THE MACHINE GOES ON: it comes to the end of every turn of the abstract run, within its bound and the steps before the layer's
abbrev pub ItGoesOn : Type 0
ItGoesOn = (words : List (List ℕ)) (plan : Plan) (session : Session) (s : ImageSystem) (rows : Rows) (before : List (List ℕ)) (old : Outside) →
    Asked words plan session s rows before old → let r : Run = run_of session s rows old.disk.size before in
    GoesOnWithin r.around r.system r.first (steps_before session.start (booted s rows))

-- ENOUGH STEPS: where the abstract run is defined for the wanted turns, and its bound is within the steps, a run is done or its kernel faulted
pub record HasSteps (r : Run) (more : ℕ) : Type 0 where
  pub last : Cvm
  pub defined : IsCvm r.system (lines_met r) r.turns last
  pub enough : last.bound + more ≤ r.steps

abbrev pub RunsComplete : Type 0
RunsComplete = (words : List (List ℕ)) (session : Session) (s : ImageSystem) (rows : Rows) (before : List (List ℕ)) (old new : Outside) (status : Status) →
    Asked words (boots session s rows) session s rows before old → NoneFailed words old new → Ends words old new status → status ≢ Memory →
    HasSteps (run_of session s rows old.disk.size before) (steps_before session.start (booted s rows)) → (status ≡ Done) ⊎ (status ≡ KernelFault)

-- ISOLATION: what is shown of the user of a trace that came to its end is its journal, and its last machine is that journal's replay over its first one;
-- so the text, which is told by these and by how the run ended, hangs on nothing else
pub record Isolated (r : Run) (p : Past) (u : ℕ) : Type 0 where
  pub units : ℕ
  pub turns : ℕ
  pub turns_are : turns ≡ turns_at r (steps_made r)
  pub within : cvm r.system (lines_met r) units turns ≡ Some (p.cvm turns)
  pub journal_is : p.shown (steps_made r) ≡ journal r.system (lines_met r) units u turns
  pub replayed : replay (first_user_machine r.system u) (p.shown (steps_made r)) ≡ Some (user_of (p.cvm turns).core.users u)

abbrev pub TracesIsolate : Type 0
TracesIsolate = (words : List (List ℕ)) (session : Session) (s : ImageSystem) (rows : Rows) (before : List (List ℕ)) (old : Outside) (u : ℕ) (p : Past) →
    Asked words (boots session s rows) session s rows before old → let r : Run = run_of session s rows old.disk.size before in
    r.view ≡ Trace u → IsPast r p → has_ended r ≡ true → Isolated r p u

-- what the abstract machine says of a run is one thing only, of a kernel that is what a unit of C0 may mean
abbrev pub PastsAgree : Type 0
PastsAgree = (r : Run) (p o : Past) → MeaningLaws r.system.boot.meaning → IsPast r p → IsPast r o → (t : ℕ) → t ≤ steps_made r → cvm_at r p t ≡ cvm_at r o t

-- the script tells the whole text, and stores the machine's sectors
abbrev pub ScriptsTellTheText : Type 0
ScriptsTellTheText = OfRuns (λ r load before held. (p : Past) → IsPast r p → spoken (run_script r load p) ≡ Some (whole_text r p))

abbrev pub ScriptsStoreTheSectors : Type 0
ScriptsStoreTheSectors =
    OfRuns (λ r load before held. (p : Past) → IsPast r p → sectors_after (run_script r load p) before ≡ (state_at r (steps_made r)).device.sectors)

-- the load alone makes the start
abbrev pub LoadsStoreTheStart : Type 0
LoadsStoreTheStart = OfRuns (λ r load before held. sectors_after load before ≡ r.first.device.sectors)

-- the sectors behind the run's are as before
abbrev pub SectorsBehindStay : Type 0
SectorsBehindStay = OfRuns (λ r load before held. (t : ℕ) → t ≤ steps_made r → Beyond held before (state_at r t).device.sectors)

-- the run of a boot for the turns and the steps of a save or of a resume, over a disk that has these sectors
abbrev pub run_by : Save → ImageSystem → Rows → Outside → (sectors : List (List ℕ)) → Run
run_by c s rows at sectors = run_of (save_session c) s rows at.disk.size sectors

-- it was saved: its boot prints `stopped` behind the rows, and the row `saved` stands in place of all from there on; the file's bytes are the machine's
-- words, and are taken up for as many turns or more
pub record IsSaved (c : Save) (s : ImageSystem) (rows : Rows) (r : Run) (p : Past) (old new : Outside) : Type 0 where
  pub left : IsLeft r p
  pub rest : List ℕ
  pub boot : whole_text r p ≡ text_at r p (steps_made r) ++ (codes "stopped\n" ++ rest)
  pub text : new.sink.text ≡ append_known old.sink.text (text_at r p (steps_made r) ++ saved_row)
  pub file : new.shelf.file c.file ≡ retold (old.shelf.file c.file) (saved_bytes r p)
  pub fits : (turns : ℕ) → c.boot.turns ≤ turns → turns < 2 ^ 32 → machine_of (wanted_of (boot_of_image s) rows.inputs turns) (saved_bytes r p) ≡ Ok (saved_words r p)

-- or it wasn't: the text is the boot's, and no file changed
pub record IsUnsaved (r : Run) (p : Past) (old new : Outside) : Type 0 where
  pub ended : IsLeft r p → ⊥
  pub text : new.sink.text ≡ append_known old.sink.text (whole_text r p)
  pub files : (n : List ℕ) → new.shelf.file n ≡ old.shelf.file n

-- what a save comes to, of its run
pub record SavedSo (c : Save) (s : ImageSystem) (rows : Rows) (r : Run) (before : List (List ℕ)) (old new : Outside) (status : Status) : Type 0 where
  pub past : Past
  pub is_past : IsPast r past
  pub machine : Sectors r (sectors_needed (save_session c) s rows) before (steps_made r) new.disk.sectors
  pub status_is : status ≡ run_status r past
  pub over : EndIsOver r
  pub which : IsSaved c s rows r past old new ⊎ IsUnsaved r past old new
  pub others : (n : List ℕ) → n ≢ c.file → new.shelf.file n ≡ old.shelf.file n

-- THE THEOREM OF SAVE: sectors and status are the boot's; and so is the text, but for the row `saved`, which comes exactly where the boot prints
-- `stopped`, and there alone the file is put
abbrev pub SavesHold : Type 0
SavesHold = (words : List (List ℕ)) (c : Save) (s : ImageSystem) (rows : Rows) (before : List (List ℕ)) (old new : Outside) (status : Status) →
    IsSave words c → Asked words (saves (save_session c) s rows c.file) (save_session c) s rows before old → NoneFailed words old new →
    Ends words old new status → status ≢ Memory → SavedSo c s rows (run_by c s rows old before) before old new status

-- SAVES COMPLETE where the steps are enough
abbrev pub SavesComplete : Type 0
SavesComplete = (words : List (List ℕ)) (c : Save) (s : ImageSystem) (rows : Rows) (before : List (List ℕ)) (old new : Outside) (status : Status) →
    IsSave words c → Asked words (saves (save_session c) s rows c.file) (save_session c) s rows before old → NoneFailed words old new →
    Ends words old new status → status ≢ Memory →
    HasSteps (run_of (save_session c) s rows old.disk.size before) (steps_before (save_session c).start (booted s rows)) →
    (status ≡ Done) ⊎ (status ≡ KernelFault)

-- A RESUME, of whatever file that is taken up: the run is the machine's that the file names. Of the text nothing is said.
abbrev pub ResumesGoOn : Type 0
ResumesGoOn = (words : List (List ℕ)) (d : Save) (s : ImageSystem) (rows : Rows) (machine : List ℕ) (left : List (List ℕ)) (old new : Outside)
    (status : Status) → IsResume words d → Asked words (resumes (save_session d) s rows machine) (save_session d) s rows left old →
    NoneFailed words old new → Ends words old new status → status ≢ Memory → Resumed d s rows machine left old new status
