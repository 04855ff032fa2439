-- That the machine with its boot ROM is a start.
use Rattle.std.specs.Prelude.{ℕ, ◌≤◌, List}
use Rattle.mips_table.specs.Device.{Environment}
use Rattle.cvm_model.specs.Cvm.{System}
use Rattle.layer_contract.specs.Layer.{BusyWithin}
use Rattle.layer_contract.specs.Follows.{SystemFits}
use Rattle.layer_contract.specs.Starts.{Beyond, Start}
use Rattle.boot_turns.specs.Rom.{own_rom, rom_loaded, rom_sectors, rom_steps}

-- the boot's premises, a disk that has the linked words too, and no command busier than the system's longest
pub record RomFits (x : Environment) (y : System) (old : List (List ℕ)) : Type 0 where
  pub system : SystemFits x y old
  pub busy : BusyWithin x y.longest
  pub enough : rom_sectors y ≤ x.count

-- THE ROM: the layer takes over by then, and the sectors past those of the run are the disk's
pub record RomStartsBy (x : Environment) (y : System) (old : List (List ℕ)) : Type 0 where
  pub late : ℕ
  pub within : late ≤ rom_steps y
  pub start : Start x y (rom_loaded y (own_rom y) old) late (rom_sectors y)
  pub beyond : Beyond (rom_sectors y) old (rom_loaded y (own_rom y) old).device.sectors

abbrev pub RomStarts : Type 0
RomStarts = (x : Environment) (y : System) (old : List (List ℕ)) → RomFits x y old → RomStartsBy x y old
