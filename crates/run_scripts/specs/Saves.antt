-- The claim of a save: the run of its boot, which is left where the boot prints `stopped`, with the file of the machine there.
use Rattle.std.specs.Prelude.{◌≡◌, ◌≢◌, ℕ, ◌<◌, ◌≤◌, ◌^◌, List, ◌++◌, length, codes, Some, Ok}
use Rattle.std.specs.List.{flat_map}
use Rattle.std.specs.Io.KnownBytes.{append_known}
use Rattle.cvm_outside.specs.Told.{retold}
use Rattle.cvm_words.specs.Bytes.{word}
use Rattle.schedule_file.specs.Rows.{Rows}
use Rattle.mips_table.specs.Machine.{run}
use Rattle.mips_table.specs.Turns.{end_within}
use Rattle.saved_file.specs.Answer.{answer as machine_of}
use Rattle.boot_run.specs.declared.whole.RunEnd.TheVariants.{Done as IsDone}
use Rattle.boot_run.specs.RunScript.{saved_row}
use Rattle.boot_run.specs.SavedRuns.{SavedAt, IsDisk}
use Rattle.kernel_linker.specs.Accept.{ImageSystem}
use Rattle.boot_run.specs.SaveRoom.{FILE_ROOM}
use Rattle.boot_run.specs.SavedFiles.{wanted_of}
use Rattle.run_scripts.specs.declared.exit_status.Status.{Status}
use Rattle.run_scripts.specs.declared.exit_status.Status.TheVariants.{Done, Memory}
use Rattle.run_scripts.specs.declared.session.Session.{Session}
use Rattle.run_scripts.specs.Command.{Save, IsSave, save_session}
use Rattle.cvm_outside.specs.Outside.{Outside}
use Rattle.run_scripts.specs.Plan.{most_bytes, boot_of_image}
use Rattle.run_scripts.specs.Boot.{environment_of, booted, start_state, sectors_needed, SessionGoesOn, SessionRan, Headline, AreFilesOf}
use Rattle.run_scripts.specs.Served.{Unfailed}

-- the machine is off, by a kernel that halted
abbrev pub SessionHalted : Session → ImageSystem → Rows → (before : List (List ℕ)) → Outside → Type 0
SessionHalted session s rows before old =
    (run (environment_of rows old) (start_state session s rows before)
    (end_within (environment_of rows old) (start_state session s rows before) session.turns session.steps)).off ≡ Some 0

-- A RUN THAT WAS LEFT TO BE SAVED, over a disk with these sectors: the boot prints `shown`, and `stopped` and more behind it; these words are those of
-- its machine there, with its complete turns and its current user, and the sectors are that machine's; and this comes to the end of every turn. The file of
-- the words isn't too long for a file, and is taken up for as many turns or more.
pub record Stopped (session : Session) (s : ImageSystem) (rows : Rows) (before : List (List ℕ)) (old new : Outside)
    (Left : (shown bytes : List ℕ) → Type 0) : Type 0 where
  pub after : List (List ℕ)
  pub words : List ℕ
  pub shown : List ℕ
  pub rest : List ℕ
  pub disk : IsDisk old.disk.size before
  pub sectors : new.disk.sectors ≡ Some after
  pub saved_at : SavedAt (environment_of rows old) (booted s rows) (start_state session s rows before) session.turns session.steps words after shown
  pub ran : SessionRan session s rows old before after IsDone (shown ++ (codes "stopped\n" ++ rest))
  pub goes_on : SessionGoesOn session old s rows before
  pub short : length (flat_map word words) ≤ FILE_ROOM
  pub fits : (turns : ℕ) → session.turns ≤ turns → turns < 2 ^ 32 → machine_of (wanted_of (boot_of_image s) rows.inputs turns) (flat_map word words) ≡ Ok words
  pub left : Left shown (flat_map word words)

-- its bytes are those of the file, where that is told, and the row is printed
abbrev pub IsSavedIn : (name : List ℕ) → (old new : Outside) → (shown bytes : List ℕ) → Type 0
IsSavedIn name old new shown bytes = (new.shelf.file name ≡ retold (old.shelf.file name) bytes)
    × (new.sink.text ≡ append_known old.sink.text (shown ++ saved_row))

-- THE PREMISES of the theorem: the words of a save, and files that are an accepted image and a valid schedule, whose machine's file isn't too long; an
-- honest disk with sectors enough; and no failed call. Of FILE this asks that its put counted no fault, since no shelf says before which puts it takes; what
-- the file held, and whether that is told, is free
pub record IsHonestSave (words : List (List ℕ)) (c : Save) (s : ImageSystem) (rows : Rows) (before : List (List ℕ)) (old new : Outside) : Type 0 where
  pub asked : IsSave words c
  pub files : AreFilesOf old.shelf.file c.boot s rows
  pub short : most_bytes s ≤ FILE_ROOM
  pub sectors : old.disk.sectors ≡ Some before
  pub enough : sectors_needed (save_session c) s rows ≤ old.disk.size
  pub unfailed : Unfailed old new

-- THE THEOREM OF SAVE: sectors, status and text are those of the boot, whose kernel halted where it is done, and no file changes; or, exactly where the
-- boot prints `stopped`, and so its machine is on, the row `saved` is printed in place of all from there on, and the file's bytes are the saved words of
-- that machine
pub data SaveHolds (c : Save) (s : ImageSystem) (rows : Rows) (before : List (List ℕ)) (old new : Outside) (status : Status) : Type 0 where
  as_boot : (h : Headline (save_session c) s rows before old new status) → (h.ending ≡ IsDone → SessionHalted (save_session c) s rows before old)
      → ((n : List ℕ) → new.shelf.file n ≡ old.shelf.file n) → SaveHolds c s rows before old new status
  is_saved : status ≡ Done → ((n : List ℕ) → n ≢ c.file → new.shelf.file n ≡ old.shelf.file n)
      → Stopped (save_session c) s rows before old new (IsSavedIn c.file old new) → SaveHolds c s rows before old new status

abbrev pub Saves : List (List ℕ) → Status → (old new : Outside) → Type 0
Saves words status old new = (c : Save) (s : ImageSystem) (rows : Rows) (before : List (List ℕ)) →
    IsHonestSave words c s rows before old new → status ≢ Memory → SaveHolds c s rows before old new status
