-- What a file of a saved boot holds is what one that is taken up may hold.
use Rattle.std.specs.Prelude.{ℕ, ◌<◌, ◌≤◌, ◌^◌, List, length}
use Rattle.mips_table.specs.Machine.{run}
use Rattle.schedule_file.specs.Rows.{Rows}
use Rattle.mips_machine.specs.Steps.{outside_of}
use Rattle.layer_map.specs.Map.{memory_frames}
use Rattle.cvm_model.specs.Cvm.{Boot, map_of}
use Rattle.layer_contract.specs.declared.boot.Boot.{Boot as Booted}
use Rattle.layer_contract.specs.Boots.{boot_of}
use Rattle.layer_contract.specs.Follows.{loaded}
use Rattle.layer_contract.specs.Starts.{user_sectors}
use Rattle.saved_file.specs.Resumable.{Wanted}
use Rattle.saved_file.specs.Answer.{IsOfRun}
use Rattle.boot_run.specs.Loading.{system_of}
use Rattle.boot_run.specs.SavedRuns.{SavedAt}
use Rattle.boot_run.specs.Pieces.{Bootable}

-- what a saved machine has to fit to be taken up as one of this boot, under such input, for so many turns
abbrev pub wanted_of : Boot → (inputs : List ℕ) → (turns : ℕ) → Wanted
wanted_of b inputs turns =
    record { frames = memory_frames (map_of b); users = length b.users; pages = b.params.pages; inputs = inputs; linked = b.words; turns = turns }

-- the machine that was saved of a boot is one of the system's run, and no more turns are complete than are wanted, where these are no fewer than the boot's
abbrev pub SavedBootsAreOfRuns : Type 0
SavedBootsAreOfRuns = (b : Booted) (rows : Rows) (count : ℕ) (old left : List (List ℕ)) (few spent turns : ℕ) (words shown : List ℕ) →
    Bootable b rows count (system_of b rows) (loaded (system_of b rows) old) 1 (user_sectors (system_of b rows)) old →
    (a : SavedAt (outside_of rows count) (system_of b rows) (loaded (system_of b rows) old) few spent words left shown) → 1 ≤ few → few ≤ turns →
    turns < 2 ^ 32 → spent < 2 ^ 64 →
    IsOfRun (outside_of rows count) (wanted_of (boot_of b) rows.inputs turns)
    (run (outside_of rows count) (loaded (system_of b rows) old) a.at) few a.past.core.current
