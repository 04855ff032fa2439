-- The claim of a resume: whatever its file holds, its run is the machine's from the state that the file names; and it goes on as the run that was saved.
use Rattle.std.specs.Prelude.{false, ◌+◌, ◌≡◌, ◌≢◌, ℕ, ◌<◌, ◌≤◌, List, [], ◌∷◌, ◌++◌, length, Some, Ok}
use Rattle.std.specs.List.{flat_map}
use Rattle.std.specs.Io.KnownBytes.{append_known}
use Rattle.cvm_outside.specs.Told.{TOO_LONG}
use Rattle.cvm_words.specs.Bytes.{word}
use Rattle.schedule_file.specs.Rows.{Rows}
use Rattle.saved_file.specs.Answer.{answer as machine_of}
use Rattle.boot_run.specs.declared.whole.RunEnd.{RunEnd}
use Rattle.boot_run.specs.SavedRuns.{SavedAt, IsDisk}
use Rattle.boot_run.specs.SavedFiles.{wanted_of}
use Rattle.kernel_linker.specs.Accept.{ImageSystem}
use Rattle.run_scripts.specs.declared.exit_status.Status.{Status}
use Rattle.run_scripts.specs.declared.exit_status.Status.TheVariants.{Memory}
use Rattle.run_scripts.specs.Command.{Save, IsResume, save_session}
use Rattle.boot_turns.specs.Runs.{Run, state_at, steps_made, has_ended}
use Rattle.run_scripts.specs.Ends.{GoesOn}
use Rattle.run_scripts.specs.RunStatus.{status_of_end, power_status}
use Rattle.cvm_outside.specs.Outside.{Outside}
use Rattle.run_scripts.specs.Plan.{boot_of_image}
use Rattle.run_scripts.specs.Boot.{environment_of, booted, start_state, sectors_needed, SessionGoesOn, SessionRan, AreFilesOf}
use Rattle.run_scripts.specs.Saves.{Stopped, IsSavedIn}
use Rattle.run_scripts.specs.Served.{NoCallFails}

-- THE PREMISES: the words of a resume, and files that are an accepted image, a valid schedule and the file of a machine that can be taken up; an honest disk
-- with sectors enough; and no call fails, for which a shelf is enough that surely gives the three files
pub record IsHonestResume (words : List (List ℕ)) (c : Save) (s : ImageSystem) (rows : Rows) (machine : List ℕ) (left : List (List ℕ))
    (old new : Outside) : Type 0 where
  pub asked : IsResume words c
  pub files : AreFilesOf old.shelf.file c.boot s rows
  pub bytes : List ℕ
  pub bytes_told : old.shelf.file c.file ≡ Some bytes
  pub bytes_short : length bytes < TOO_LONG
  pub fits : machine_of (wanted_of (boot_of_image s) rows.inputs c.boot.turns) bytes ≡ Ok machine
  pub sectors : old.disk.sectors ≡ Some left
  pub enough : sectors_needed (save_session c) s rows ≤ old.disk.size
  pub served : NoCallFails (c.boot.image ∷ c.boot.schedule ∷ c.file ∷ []) old new

-- THE RUN is that of the one machine which the file names, over the disk's sectors, and the status is told by its end and its power word; where it comes to no
-- end all steps are spent, with those that were saved; and no file changes
pub record Resumed (c : Save) (s : ImageSystem) (rows : Rows) (machine : List ℕ) (left : List (List ℕ)) (old new : Outside) (status : Status) : Type 0 where
  pub run : Run
  pub goes_on : GoesOn (save_session c) s rows machine old.disk.size left run
  pub only : (other : Run) → GoesOn (save_session c) s rows machine old.disk.size left other → other ≡ run
  pub sectors : new.disk.sectors ≡ Some (state_at run (steps_made run)).device.sectors
  pub status_is : status ≡ power_status (has_ended run) (state_at run (steps_made run)).off
  pub spent : has_ended run ≡ false → c.boot.steps ≤ run.first.time + steps_made run
  pub files : (n : List ℕ) → new.shelf.file n ≡ old.shelf.file n

-- THE RUN THAT WAS SAVED in these words, over a disk of as many sectors, which had these: in no more steps than the resume is given, with this text
pub record IsSavedRun (c : Save) (s : ImageSystem) (rows : Rows) (machine : List ℕ) (left before : List (List ℕ)) (shown : List ℕ)
    (old : Outside) : Type 0 where
  pub turns : ℕ
  pub steps : ℕ
  pub disk : IsDisk old.disk.size before
  pub fewer : steps ≤ c.boot.steps
  pub saved_at : SavedAt (environment_of rows old) (booted s rows) (start_state (save_session c) s rows before) turns steps machine left shown

-- THE BOOT AS A WHOLE: the sectors and the status are its, and so is the text behind what the first call showed; and its machine comes to the end of
-- every turn
pub record IsBootBehind (c : Save) (s : ImageSystem) (rows : Rows) (before : List (List ℕ)) (shown : List ℕ) (first old new : Outside)
    (status : Status) : Type 0 where
  pub after : List (List ℕ)
  pub text : List ℕ
  pub ending : RunEnd
  pub sectors : new.disk.sectors ≡ Some after
  pub printed : new.sink.text ≡ append_known old.sink.text text
  pub status_is : status ≡ status_of_end ending
  pub ran : SessionRan (save_session c) s rows first before after ending (shown ++ text)
  pub goes_on : SessionGoesOn (save_session c) first s rows before

-- THE THEOREM OF RESUME: it goes on so, whatever its file holds; and where that is the file of a saved run it is the boot as a whole
pub record ResumeHolds (c : Save) (s : ImageSystem) (rows : Rows) (machine : List ℕ) (left : List (List ℕ)) (old new : Outside) (status : Status) : Type 0 where
  pub went : Resumed c s rows machine left old new status
  pub joins : (before : List (List ℕ)) (shown : List ℕ) → IsSavedRun c s rows machine left before shown old →
      IsBootBehind c s rows before shown old old new status

abbrev pub Resumes : List (List ℕ) → Status → (old new : Outside) → Type 0
Resumes words status old new = (c : Save) (s : ImageSystem) (rows : Rows) (machine : List ℕ) (left : List (List ℕ)) →
    IsHonestResume words c s rows machine left old new → status ≢ Memory → ResumeHolds c s rows machine left old new status

-- what the second call finds of the first: files that are the same image and schedule, the file that was saved, and the disk as it was left; and no
-- call fails
pub record IsLeftBy (c d : Save) (s : ImageSystem) (rows : Rows) (bytes : List ℕ) (after : List (List ℕ)) (first old new : Outside) : Type 0 where
  pub files : AreFilesOf old.shelf.file d.boot s rows
  pub bytes_told : old.shelf.file d.file ≡ Some bytes
  pub sectors : old.disk.sectors ≡ Some after
  pub size : old.disk.size ≡ first.disk.size
  pub turns : c.boot.turns ≤ d.boot.turns
  pub steps : c.boot.steps ≤ d.boot.steps
  pub enough : sectors_needed (save_session d) s rows ≤ old.disk.size
  pub served : NoCallFails (d.boot.image ∷ d.boot.schedule ∷ d.file ∷ []) old new

-- A LAW: where a save printed `saved`, and a resume of the same image and schedule, with as many turns and steps or more, ends over what the first call
-- left, the text of the first without its last row and that of the second behind it are the text of the boot with the second's turns and steps over the
-- disk of the first; and status and sectors are that boot's
abbrev pub SavedAndResumedAreBooted : Type 0
SavedAndResumedAreBooted = (c d : Save) (s : ImageSystem) (rows : Rows) (before : List (List ℕ)) (first mid old new : Outside)
    (words : List (List ℕ)) (status : Status)
    (a : Stopped (save_session c) s rows before first mid (IsSavedIn c.file first mid)) → Resumes words status old new → IsResume words d
    → IsLeftBy c d s rows (flat_map word a.words) a.after first old new → status ≢ Memory → IsBootBehind d s rows before a.shown first old new status
