-- The disk behind its ports, the device that it is with a buffer and sectors, and what the end of a step leaves.
use Rattle.std.specs.Prelude.{◌≡◌, ℕ, zero, suc, List, [], ◌∷◌, length, Option, IfSome, Result, OnOk, OnErr}
use Rattle.std.specs.Option.{option_map}
use Rattle.cvm_outside.specs.Told.{with_sector}
use Rattle.mips_table.specs.Device.{Device, Pending, Idle, Reading, Writing, disk_counted}
use Rattle.mips_table.specs.Fits.{NamesSector}
use Rattle.cvm_outside.specs.Script.{Call, Read, Wrote}

-- the sector register, the command under way, and the number of the next command
pub record Ports : Type 0 where
  pub sector : ℕ
  pub pending : Pending
  pub commands : ℕ

-- the ports at the start
abbrev pub idle : Ports
idle = record { sector = 0; pending = Idle; commands = 0 }

-- the device with these ports, the words of its buffer and its sectors
abbrev pub device_of : Ports → List ℕ → List (List ℕ) → Device
device_of ports buffer sectors = record { buffer = buffer; sector = ports.sector; pending = ports.pending; commands = ports.commands; sectors = sectors }

-- the ports of a device
abbrev pub ports_of : Device → Ports
ports_of d = record { sector = d.sector; pending = d.pending; commands = d.commands }

-- the device counts, with some sectors: as many as the disk has, those that are told where they are told, and so afterwards
pub record EndsStep (size : ℕ) (old new : Ports) (buffer after : List ℕ) (told retold : Option (List (List ℕ))) : Type 0 where
  pub sectors : List (List ℕ)
  pub many : length sectors ≡ size
  pub given : IfSome told (λ ss. sectors ≡ ss)
  pub device : device_of new after (disk_counted (device_of old buffer sectors)).sectors ≡ disk_counted (device_of old buffer sectors)
  pub left : retold ≡ option_map (λ _. (disk_counted (device_of old buffer sectors)).sectors) told

-- a transfer that is due fails: no sector changes where one was to be read, and where one was to be written the buffer
-- stays and that sector may hold anything
abbrev pub TransferFails : Pending → List ℕ → List ℕ → Option (List (List ℕ)) → Option (List (List ℕ)) → Type 0
TransferFails Idle buffer after told retold = ⊥
TransferFails (Reading zero sector) buffer after told retold = retold ≡ told
TransferFails (Reading (suc left) sector) buffer after told retold = ⊥
TransferFails (Writing zero sector) buffer after told retold = (after ≡ buffer) × ((words : List ℕ) × (retold ≡ with_sector told sector words))
TransferFails (Writing (suc left) sector) buffer after told retold = ⊥

-- the script of the end of a step: the transfer that is due, if one is
abbrev pub transfer_script : Pending → (buffer : List ℕ) → List Call
transfer_script (Reading zero sector) buffer = Read sector ∷ []
transfer_script (Writing zero sector) buffer = Wrote sector buffer ∷ []
transfer_script other buffer = []

-- what is known of a disk: how many sectors it has, and those that are told
pub record KnownDisk : Type 0 where
  pub size : ℕ
  pub told : Option (List (List ℕ))

-- the end of a step, by its answer: the ports, the buffer and the disk before and after it
pub record StepEnd {E : Type 0} (result : Result (Unit {0}) E) (old new : Ports) (buffer after : List ℕ) (disk left : KnownDisk) : Type 0 where
  pub ended : OnOk result (EndsStep disk.size old new buffer after disk.told left.told)
  pub fault : OnErr result (TransferFails old.pending buffer after disk.told left.told)
  pub ports : (sectors : List (List ℕ)) → new ≡ ports_of (disk_counted (device_of old buffer sectors))
  pub under_way : NamesSector left.size new.pending
  pub size : left.size ≡ disk.size
