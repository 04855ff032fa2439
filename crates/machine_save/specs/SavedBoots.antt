-- What holds of a boot over each disk of so many sectors, and of what is saved of it.
use Rattle.std.specs.Prelude.{◌≡◌, ℕ, ◌≤◌, ◌<◌, ◌^◌, List, Ok}
use Rattle.std.specs.List.{flat_map}
use Rattle.cvm_words.specs.Bytes.{word}
use Rattle.schedule_file.specs.Rows.{Rows}
use Rattle.mips_machine.specs.Steps.{outside_of}
use Rattle.layer_contract.specs.declared.boot.Boot.{Boot as Booted}
use Rattle.layer_contract.specs.Follows.{loaded}
use Rattle.layer_contract.specs.Boots.{boot_of}
use Rattle.saved_file.specs.Resumable.{CanBeResumed}
use Rattle.saved_file.specs.Answer.{answer}
use Rattle.boot_run.specs.Loading.{system_of}
use Rattle.boot_run.specs.LoadEnds.{pages_needed}
use Rattle.boot_run.specs.SavedRuns.{SavedAt, IsDisk}
use Rattle.boot_run.specs.Pieces.{AreBoots}
use Rattle.boot_run.specs.SavedFiles.{wanted_of}

-- it can be booted over each that has the sectors which it needs
abbrev pub CanBoot : Booted → Rows → (count : ℕ) → Type 0
CanBoot b rows count = pages_needed b ≤ count → AreBoots b rows count

-- what is saved of it can be taken up for no fewer turns, and its file is read back
abbrev pub AreTakenUp : Booted → Rows → (count : ℕ) → Type 0
AreTakenUp b rows count = (old left : List (List ℕ)) (few spent turns : ℕ) (words shown : List ℕ) → pages_needed b ≤ count → IsDisk count old →
    SavedAt (outside_of rows count) (system_of b rows) (loaded (system_of b rows) old) few spent words left shown →
    1 ≤ few → few ≤ turns → turns < 2 ^ 32 → spent < 2 ^ 64 →
    CanBeResumed (wanted_of (boot_of b) rows.inputs turns) words × (answer (wanted_of (boot_of b) rows.inputs turns) (flat_map word words) ≡ Ok words)
