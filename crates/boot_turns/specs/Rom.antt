-- The machine with a ROM as a start: its state at step 0, and by when the layer takes over.
use Rattle.std.specs.Prelude.{ℕ, ◌+◌, ◌*◌, ◌/◌, ◌&&◌, ◌-◌, not, nat_lt, if◌then◌else◌, List, length, map, slice_index}
use Rattle.std.specs.List.{range_with_len}
use Rattle.mips_table.specs.Machine.{State}
use Rattle.layer_map.specs.Map.{memory_frames}
use Rattle.cvm_model.specs.Cvm.{System, map_of}
use Rattle.layer_contract.specs.Follows.{loaded_sector}
use Rattle.layer_contract.specs.Starts.{user_sectors}
use Rattle.boot_rom.specs.Laws.{RomLoad}
use Rattle.boot_rom.specs.Boots.{rom_start, rom_of}

-- what the ROM loads: the linked words, from the sector behind the users' pages on
abbrev pub load_of : System → RomLoad
load_of y = record { first = user_sectors y; count = (length y.boot.words + 1023) / 1024; busy = y.longest }

-- the sectors that a run from the ROM uses: the users' pages, and the linked words
abbrev pub rom_sectors : System → ℕ
rom_sectors y = (load_of y).first + (load_of y).count

-- the k-th page of a list of words, filled up with zeros
abbrev pub filled_page : List ℕ → ℕ → List ℕ
filled_page words k = map (λ i. slice_index words (1024 * k + i)) (range_with_len 0 1024)

-- sector q of the disk: a page of the linked words, or as the boot has it
abbrev pub rom_sector : System → List (List ℕ) → ℕ → List ℕ
rom_sector y old q =
    let first = user_sectors y in
    if not (nat_lt q first) && nat_lt q (rom_sectors y) then filled_page y.boot.words (q - first) else loaded_sector y old q

-- the machine with a ROM of these words, which stand in a frame behind the map's, over a disk that had the sectors `old`
abbrev pub rom_loaded : System → (rom : List ℕ) → List (List ℕ) → State
rom_loaded y rom old = rom_start rom (memory_frames (map_of y.boot)) (map (rom_sector y old) (range_with_len 0 (length old))) y.input

-- with the ROM that loads the system
abbrev pub own_rom : System → List ℕ
own_rom y = rom_of (load_of y)

-- how late the layer takes over, at most
abbrev pub rom_steps : System → ℕ
rom_steps y = 100 + (load_of y).count * (12000 + y.longest)
