-- What a saved run leaves, and which sectors are those of a disk.
use Rattle.std.specs.Prelude.{◌≡◌, ℕ, ◌≤◌, Some, None, Option, List, length, All}
use Rattle.mips_table.specs.Device.{Environment}
use Rattle.mips_table.specs.Turns.{lines_of_turn, IsTurnEnd}
use Rattle.mips_table.specs.Machine.{State, run}
use Rattle.mips_machine.specs.Saved.{saved}
use Rattle.cvm_model.specs.Cvm.{System, Cvm, IsCvm}
use Rattle.cvm_model.specs.Text.{rows_text}
use Rattle.mips_table.specs.Fits.{IsPage}

-- THE SAVED RUN of so many turns, from `s`: the first step at which they are complete comes within the steps; the machine is on there, and the abstract
-- run has come to `past`; the words are those of the machine, with these turns and its current user; `left` are its sectors, and `shown` is the run's text
pub record SavedAt (x : Environment) (y : System) (s : State) (turns steps : ℕ) (words : List ℕ) (left : List (List ℕ)) (shown : List ℕ) : Type 0 where
  pub at : ℕ
  pub past : Cvm
  pub end : IsTurnEnd x s turns at
  pub within : at ≤ steps
  pub on : (run x s at).off ≡ None
  pub cvm : IsCvm y (lines_of_turn x s) turns past
  pub words_are : words ≡ saved y.input (run x s at) turns past.core.current
  pub left_is : left ≡ (run x s at).device.sectors
  pub shown_is : shown ≡ rows_text past.rows

-- so many sectors, of 1,024 words each
pub record IsDisk (count : ℕ) (old : List (List ℕ)) : Type 0 where
  pub size : length old ≡ count
  pub each : All IsPage old

-- sectors that are told are a disk's
abbrev pub AreDisk : (count : ℕ) → (told : Option (List (List ℕ))) → Type 0
AreDisk count told = (old : List (List ℕ)) → told ≡ Some old → IsDisk count old
