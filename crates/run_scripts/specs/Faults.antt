-- AFTER A FAULT: what is printed and which sectors stand before the statuses 4, 5 and 7 of boot, rom, trace and sample, 4 to 7 of a save, and 4, 5 and 7 of
-- a resume of a saved run, as laws.
use Rattle.std.specs.Prelude.{◌≡◌, ◌≢◌, ◌⊎◌, ℕ, suc, ◌+◌, ◌<◌, ◌≤◌, ⊤, true, false, List, [], ◌∷◌, ◌++◌, length, take, Some}
use Rattle.std.specs.Io.KnownBytes.{append_known}
use Rattle.cvm_outside.specs.Told.{retold, IsCutOff}
use Rattle.cvm_outside.specs.Numbering.{called, counted_times}
use Rattle.schedule_file.specs.Rows.{Rows}
use Rattle.mips_table.specs.Turns.{IsTurnEnd}
use Rattle.mips_machine.specs.Steps.{script_of_step}
use Rattle.cvm_model.specs.Cvm.{Running}
use Rattle.cvm_model.specs.Text.{rows_text, start_row, journal_rows, open_journal_rows, end_text}
use Rattle.layer_contract.specs.Starts.{Beyond}
use Rattle.boot_turns.specs.declared.answers.View.{View}
use Rattle.boot_turns.specs.declared.answers.View.TheVariants.{Boot, Trace}
use Rattle.kernel_linker.specs.Accept.{ImageSystem}
use Rattle.run_scripts.specs.declared.exit_status.Status.{Status}
use Rattle.run_scripts.specs.declared.exit_status.Status.TheVariants.{StepLimit, Disk, Shelf, Sink}
use Rattle.run_scripts.specs.declared.session.Session.{Session}
use Rattle.run_scripts.specs.Command.{Save, IsSave, IsResume, save_session}
use Rattle.run_scripts.specs.Plan.{boots, saves, resumes}
use Rattle.cvm_outside.specs.Script.{Call, Who, TheSink, TheDisk, Performs, disk_calls, scripts}
use Rattle.cvm_outside.specs.Outside.{Outside, counts}
use Rattle.boot_turns.specs.Runs.{Run, Past, IsPast, state_at, turns_at, steps_made, has_ended, cvm_at}
use Rattle.boot_turns.specs.StepScript.{entry_script, step_script, steps_script}
use Rattle.boot_turns.specs.TurnEnds.{first_user_machine}
use Rattle.run_scripts.specs.Boot.{sectors_needed}
use Rattle.boot_run.specs.Closing.{opening_script, closing_script}
use Rattle.boot_run.specs.RunScript.{saved_row, saved_bytes}
use Rattle.run_scripts.specs.SessionRuns.{run_of}
use Rattle.run_scripts.specs.Ends.{Ends, IsNotGot, SavedRun, session_load}
use Rattle.run_scripts.specs.AskedRuns.{text_at, whole_text, Asked}

-- what was printed is this text; or the first of a whole one, with at least this part of it
abbrev pub HasPrinted : (old new : Outside) → (text : List ℕ) → Type 0
HasPrinted old new text = new.sink.text ≡ append_known old.sink.text text

pub record PrintedWithin (old new : Outside) (part whole : List ℕ) : Type 0 where
  pub count : ℕ
  pub printed : HasPrinted old new (take count whole)
  pub holds : take (length part) (take count whole) ≡ part

-- the sectors are those of the machine after t steps
abbrev pub Stand : Run → ℕ → Outside → Type 0
Stand r t new = new.disk.sectors ≡ Some (state_at r t).device.sectors

-- the sectors from a number on are as before
pub record KeepsBehind (held : ℕ) (before : List (List ℕ)) (new : Outside) : Type 0 where
  pub sectors : List (List ℕ)
  pub are : new.disk.sectors ≡ Some sectors
  pub beyond : Beyond held before sectors

-- the text up to the end row, which stands before the first read of a report; of a trace all rows of the journal stand in it
abbrev pub closed_by : View → Run → Past → List ℕ
closed_by Boot r p = rows_text (cvm_at r p (steps_made r)).rows ++ end_text (cvm_at r p (steps_made r)).status
closed_by (Trace u) r p =
    start_row u (first_user_machine r.system u) ++ journal_rows (p.shown (steps_made r)) ++ end_text (cvm_at r p (steps_made r)).status

-- no call of the disk failed up to here, and there are as many as this script makes, by both counts
pub record CalledBy (script : List Call) (old at : Outside) : Type 0 where
  pub faults : at.disk.faults ≡ old.disk.faults
  pub calls : at.disk.calls ≡ called (disk_calls script) (counts old.disk)
  pub all_calls : at.disk.all_calls ≡ counted_times (disk_calls script) old.disk.all_calls

-- the script up to a step, and up to the row of an entry of that step
abbrev pub up_to_step : Run → (load : List Call) → Past → (t : ℕ) → List Call
up_to_step r load p t = load ++ opening_script r.view r.system ++ steps_script r p 0 t

abbrev pub up_to_row : Run → (load : List Call) → Past → (u t k : ℕ) → List Call
up_to_row r load p u t k =
    up_to_step r load p t ++ script_of_step r.around (state_at r t) ++ scripts (λ i. entry_script r p u t (length (p.shown t) + i)) k

-- THE DISK FAILED in the load, with nothing printed; in the transfer that was due in a step, with exactly the text before that step; in the read of a
-- word that was copied to the user of a trace, with exactly the rows before that word's; or in the report, where there is one, with its end row and the
-- first of what stands behind that; each but the first with the count of the disk's calls before, so these tell the step
pub data AfterDisk (Reports : Type 0) (r : Run) (load : List Call) (p : Past) (old new : Outside) : Type 0 where
  in_load : (mid : Outside) → mid.disk ≡ old.disk → Performs load mid new (Some TheDisk) → HasPrinted old new [] → AfterDisk Reports r load p old new
  in_transfer : (t : ℕ) (mid : Outside) → t < steps_made r → Stand r t mid → CalledBy (up_to_step r load p t) old mid →
      Performs (script_of_step r.around (state_at r t)) mid new (Some TheDisk) → HasPrinted old new (text_at r p t) → AfterDisk Reports r load p old new
  in_rows : (u t k : ℕ) (mid : Outside) → r.view ≡ Trace u → t < steps_made r → length (p.shown t) + k < length (p.shown (suc t)) → Stand r (suc t) mid →
      CalledBy (up_to_row r load p u t k) old mid → Performs (entry_script r p u t (length (p.shown t) + k)) mid new (Some TheDisk) →
      HasPrinted old new (start_row u (first_user_machine r.system u) ++ open_journal_rows (take (length (p.shown t) + k) (p.shown (suc t)))) →
      AfterDisk Reports r load p old new
  in_report : (mid : Outside) → Reports → Stand r (steps_made r) mid → CalledBy (up_to_step r load p (steps_made r)) old mid →
      HasPrinted old mid (text_at r p (steps_made r)) → Performs (closing_script r p) mid new (Some TheDisk) →
      PrintedWithin old new (closed_by r.view r p) (whole_text r p) → AfterDisk Reports r load p old new

-- the rows of a step are of a boot those of one turn, which that step completes: its end is the first moment at which so many turns are complete
abbrev pub EndsTurn : View → Run → ℕ → Type 0
EndsTurn Boot r t = (turns_at r (suc t) ≡ suc (turns_at r t)) × IsTurnEnd r.around r.first (turns_at r (suc t)) (suc t)
EndsTurn (Trace u) r t = ⊤

-- THE SINK FAILED in the first row of a trace, before any step; in the rows of a step, which has some; or in the end row or the report, where there is one
pub data AfterSink (Reports : Type 0) (r : Run) (p : Past) (old new : Outside) : Type 0 where
  in_opening : (u : ℕ) → r.view ≡ Trace u → Stand r 0 new → PrintedWithin old new [] (text_at r p 0) → AfterSink Reports r p old new
  in_rows : (t : ℕ) → t < steps_made r → text_at r p t ≢ text_at r p (suc t) → EndsTurn r.view r t → Stand r (suc t) new →
      PrintedWithin old new (text_at r p t) (text_at r p (suc t)) → AfterSink Reports r p old new
  in_report : Reports → Stand r (steps_made r) new → PrintedWithin old new (text_at r p (steps_made r)) (whole_text r p) → AfterSink Reports r p old new

-- BY THE STATUS, of a run that prints a report where this holds
abbrev pub AfterBy : (Reports : Type 0) → Status → Run → (load : List Call) → Past → (old new : Outside) → Type 0
AfterBy Reports StepLimit r load p old new = (has_ended r ≡ false) × HasPrinted old new (text_at r p (steps_made r)) × Stand r (steps_made r) new
AfterBy Reports Disk r load p old new = AfterDisk Reports r load p old new
AfterBy Reports Sink r load p old new = AfterSink Reports r p old new
AfterBy Reports other r load p old new = ⊤

-- what is left, by the abstract run; in each case the sectors behind the run's are as before
pub record After (r : Run) (held : ℕ) (before : List (List ℕ)) (new : Outside) (By : Past → Type 0) : Type 0 where
  pub past : Past
  pub is_past : IsPast r past
  pub by : By past
  pub behind : KeepsBehind held before new

-- and the text begins the whole one
abbrev pub FaultsLeave : Type 0
FaultsLeave = (words : List (List ℕ)) (session : Session) (s : ImageSystem) (rows : Rows) (before : List (List ℕ)) (old new : Outside) (status : Status) →
    Asked words (boots session s rows) session s rows before old → (status ≡ StepLimit) ⊎ ((status ≡ Disk) ⊎ (status ≡ Sink)) → Ends words old new status →
    let r : Run = run_of session s rows old.disk.size before in
    After r (sectors_needed session s rows) before new
    (λ p. AfterBy (has_ended r ≡ true) status r (session_load session s rows) p old new × PrintedWithin old new [] (whole_text r p))

-- A run that is left to be saved: it came to its end, and the abstract machine goes on there. Of any other that came to its end the report is printed.
abbrev pub IsLeft : Run → Past → Type 0
IsLeft r p = (has_ended r ≡ true) × ((cvm_at r p (steps_made r)).status ≡ Running)

abbrev pub IsReported : Run → Past → Type 0
IsReported r p = (has_ended r ≡ true) × ((cvm_at r p (steps_made r)).status ≢ Running)

-- AFTER A FAULT OF A SAVE: where the put failed the row isn't printed, and the file has what it had or a part of the bytes; where the row failed the file
-- has its bytes, and a part of the row is printed; where another call failed, or the steps were spent, the file is as before
abbrev pub UnsavedBy : Status → Save → Run → (load : List Call) → Past → (old new : Outside) → Type 0
UnsavedBy Shelf c r load p old new = IsLeft r p × HasPrinted old new (text_at r p (steps_made r)) × Stand r (steps_made r) new
    × IsCutOff (old.shelf.file c.file) (saved_bytes r p) (new.shelf.file c.file)
UnsavedBy Sink c r load p old new = (AfterSink (IsReported r p) r p old new × (new.shelf.file c.file ≡ old.shelf.file c.file))
    ⊎ (IsLeft r p × PrintedWithin old new (text_at r p (steps_made r)) (text_at r p (steps_made r) ++ saved_row) × Stand r (steps_made r) new
    × (new.shelf.file c.file ≡ retold (old.shelf.file c.file) (saved_bytes r p)))
UnsavedBy other c r load p old new = AfterBy (IsReported r p) other r load p old new × (new.shelf.file c.file ≡ old.shelf.file c.file)

-- or a file of its words could not be got
abbrev pub SaveFaultsLeave : Type 0
SaveFaultsLeave = (words : List (List ℕ)) (c : Save) (s : ImageSystem) (rows : Rows) (before : List (List ℕ)) (old new : Outside) (status : Status) →
    IsSave words c → Asked words (saves (save_session c) s rows c.file) (save_session c) s rows before old →
    (status ≡ StepLimit) ⊎ ((status ≡ Disk) ⊎ ((status ≡ Shelf) ⊎ (status ≡ Sink))) → Ends words old new status →
    let r : Run = run_of (save_session c) s rows old.disk.size before in
    ((status ≡ Shelf) × IsNotGot (c.boot.image ∷ c.boot.schedule ∷ []) old new)
    ⊎ After r (sectors_needed (save_session c) s rows) before new (λ p. UnsavedBy status c r (session_load (save_session c) s rows) p old new)

-- this text stands, of which the first part did before: what was printed here is what stands behind it; or the first of that
pub record PrintedBehind (old new : Outside) (shown text : List ℕ) : Type 0 where
  pub more : List ℕ
  pub whole : text ≡ shown ++ more
  pub printed : HasPrinted old new more

pub record BeginsBehind (old new : Outside) (shown text : List ℕ) : Type 0 where
  pub more : List ℕ
  pub whole : text ≡ shown ++ more
  pub count : ℕ
  pub printed : HasPrinted old new (take count more)

-- A CALL FAILED of a resume of a run that was saved after so many steps: of step t, whose transfer is done where it is the sink's, with exactly the text
-- behind what was shown up to that step; or of the report, where there is one
pub data AfterRest (whom : Who) (r : Run) (p : Past) (made : ℕ) (old new : Outside) : Type 0 where
  in_step : (t : ℕ) (mid : Outside) → made ≤ t → t < steps_made r → Stand r t mid → PrintedBehind old mid (text_at r p made) (text_at r p t) →
      Performs (step_script r p t) mid new (Some whom) → (whom ≡ TheSink → Stand r (suc t) new) → AfterRest whom r p made old new
  in_report : (mid : Outside) → has_ended r ≡ true → Stand r (steps_made r) mid →
      PrintedBehind old mid (text_at r p made) (text_at r p (steps_made r)) → Performs (closing_script r p) mid new (Some whom) →
      Stand r (steps_made r) new → AfterRest whom r p made old new

abbrev pub AfterResume : Status → Run → Past → (made : ℕ) → (old new : Outside) → Type 0
AfterResume StepLimit r p made old new =
    (has_ended r ≡ false) × PrintedBehind old new (text_at r p made) (text_at r p (steps_made r)) × Stand r (steps_made r) new
AfterResume Disk r p made old new = AfterRest TheDisk r p made old new
AfterResume Sink r p made old new = AfterRest TheSink r p made old new
AfterResume other r p made old new = ⊤

-- and the text goes on from what was shown, as the whole boot's does
abbrev pub ResumeFaultsLeave : Type 0
ResumeFaultsLeave = (words : List (List ℕ)) (d : Save) (s : ImageSystem) (rows : Rows) (machine : List ℕ) (left : List (List ℕ)) (old new : Outside)
    (status : Status) (r : Run) (p : Past) (made : ℕ) → IsResume words d →
    Asked words (resumes (save_session d) s rows machine) (save_session d) s rows left old →
    SavedRun (save_session d) s rows machine old.disk.size left r p made → (status ≡ StepLimit) ⊎ ((status ≡ Disk) ⊎ (status ≡ Sink)) →
    Ends words old new status → AfterResume status r p made old new × BeginsBehind old new (text_at r p made) (whole_text r p)
