-- The room for a saved machine.
use Rattle.std.specs.Prelude.{◌≡◌, ℕ, ◌*◌, ◌<◌, ◌≤◌, List, [], Result, Ok, Err}
use Rattle.boot_run.specs.SaveRoom.{most_words, FILE_ROOM}
use Rattle.saved_file.specs.declared.fault.SaveFault.{SaveFault}
use Rattle.saved_file.specs.declared.fault.SaveFault.TheVariants.{SaveTooLarge, Memory}

-- how many words fit, and the bytes of the file that was filled in last
pub record Filled : Type 0 where
  pub words : ℕ
  pub file : List ℕ

-- what is answered where room for a machine of so many frames is asked for: the file may have as many bytes, and nothing is filled in; or it may not
abbrev pub IsRoom : (frames : ℕ) → Result Filled SaveFault → Type 0
IsRoom frames (Ok r) = (4 * most_words frames ≤ FILE_ROOM) × (r.words ≡ most_words frames) × (r.file ≡ [])
IsRoom frames (Err (SaveTooLarge bytes)) = (bytes ≡ 4 * most_words frames) × (FILE_ROOM < bytes)
IsRoom frames (Err Memory) = 4 * most_words frames ≤ FILE_ROOM
IsRoom frames (Err other) = ⊥
