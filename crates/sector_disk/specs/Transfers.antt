-- The command under way as the program keeps it.
use Rattle.mips_table.specs.Device.{Pending}
use Rattle.mips_table.specs.Device as device
use Rattle.sector_disk.specs.declared.transfer.Transfer.{Transfer}
use Rattle.sector_disk.specs.declared.transfer.Transfer.TheVariants.{Idle, Reading, Writing}

-- a command under way, as the device has it
abbrev pub pending_of : Transfer → Pending
pending_of Idle = device.Idle
pending_of (Reading left sector) = device.Reading left sector
pending_of (Writing left sector) = device.Writing left sector
