-- The outside, and the disk with its ports. A port is named by its word number: word k stands at the address 4 * k.
use Rattle.std.specs.Prelude.{◌≡◌, ℕ, zero, suc, ◌+◌, ◌-◌, ◌^◌, ◌<◌, Bool, true, false}
use Rattle.std.specs.Prelude.{not, ◌&&◌, ◌==◌, nat_lt, if◌then◌else◌, List, [], slice_index, slice_index_or, slice_set}

-- the first word of the disk's buffer of 1,024 words, at ffffe000
abbrev pub BUFFER : ℕ
BUFFER = 0x3ffff800

-- the sector register, at fffff000
abbrev pub SECTOR : ℕ
SECTOR = 0x3ffffc00

-- the command (written) and the status (read), at fffff004
abbrev pub COMMAND : ℕ
COMMAND = 0x3ffffc01

-- the power port, at fffff008
abbrev pub POWER : ℕ
POWER = 0x3ffffc02

-- no command is under way, or one is, with the steps that end before its transfer and the sector that it names
pub data Pending : Type 0 where
  Idle : Pending
  Reading : (left sector : ℕ) → Pending
  Writing : (left sector : ℕ) → Pending

-- the buffer, the sector register, the command under way, the number of the next command, and the words of each sector
pub record Device : Type 0 where
  pub buffer : List ℕ
  pub sector : ℕ
  pub pending : Pending
  pub commands : ℕ
  pub sectors : List (List ℕ)

-- what happens outside: the lines that are raised at each step, a last step that has any, the busy time of each command, and the number of sectors
pub record Environment : Type 0 where
  pub lines : ℕ → ℕ
  pub last : ℕ
  pub busy : ℕ → ℕ
  pub count : ℕ

-- there are eight lines
abbrev pub HasEightLines : Environment → Type 0
HasEightLines x = (t : ℕ) → x.lines t < 2 ^ 8

-- no line is raised after the last step
abbrev pub LinesEnd : Environment → Type 0
LinesEnd x = (t : ℕ) → x.last < t → x.lines t ≡ 0

-- whether a command is under way
abbrev pub is_busy : Pending → Bool
is_busy Idle = false
is_busy (Reading left sector) = true
is_busy (Writing left sector) = true

-- whether a word number is that of a word of the buffer
abbrev pub is_buffer : ℕ → Bool
is_buffer k = not (nat_lt k BUFFER) && nat_lt k SECTOR

-- the words of a sector
abbrev pub sector_of : List (List ℕ) → ℕ → List ℕ
sector_of sectors i = slice_index_or sectors i []

-- what a read outside memory gives
abbrev pub port_read : Device → ℕ → ℕ
port_read d k =
    if k == COMMAND then (if is_busy d.pending then 1 else 0) else
    if is_buffer k then (if is_busy d.pending then 0 else slice_index d.buffer (k - BUFFER)) else
    if k == SECTOR then d.sector else
    0

-- a command is numbered and begins, unless it is lost
abbrev pub command_begun : (ℕ → ℕ) → ℕ → Device → ℕ → Device
command_begun busy count d command =
    if not (nat_lt d.sector count) then d else
    if command == 1 then record d { pending = Reading (busy d.commands) d.sector; commands = d.commands + 1 } else
    if command == 2 then record d { pending = Writing (busy d.commands) d.sector; commands = d.commands + 1 } else
    d

-- what a write outside memory, and not to the power port, does
abbrev pub port_write : (ℕ → ℕ) → ℕ → Device → ℕ → ℕ → Device
port_write busy count d k value =
    if is_busy d.pending then d else
    if k == COMMAND then command_begun busy count d value else
    if is_buffer k then record d { buffer = slice_set d.buffer (k - BUFFER) value } else
    if k == SECTOR then record d { sector = value } else
    d

-- the end of a step, by the command under way: a transfer that is due is done, and another is one step nearer
abbrev pub settled : Pending → Device → Device
settled Idle d = d
settled (Reading zero sector) d = record d { buffer = sector_of d.sectors sector; pending = Idle }
settled (Reading (suc left) sector) d = record d { pending = Reading left sector }
settled (Writing zero sector) d = record d { sectors = slice_set d.sectors sector d.buffer; pending = Idle }
settled (Writing (suc left) sector) d = record d { pending = Writing left sector }

-- at the end of each step the disk counts
abbrev pub disk_counted : Device → Device
disk_counted d = settled d.pending d
