-- The memory and the ports as the processor reads and writes them.
use Rattle.std.specs.Prelude.{ℕ, ◌*◌, ◌/◌, false, nat_lt, if◌then◌else◌, List, [], length, replicate, slice_set, Option, Some, None, true}
use Rattle.mips_table.specs.Processor.{Access, Cpu}
use Rattle.mips_table.specs.Machine.{State, zero_cpu, access, located, read_at}
use Rattle.mips_step.specs.Step.{StepOutcome}
use Rattle.mips_step.specs.Ends.{StepsInMemory}
use Rattle.sector_disk.specs.Ports.{Ports, idle, device_of}
use Rattle.mips_machine.specs.declared.board.PortWrite.{PortWrite}
use Rattle.mips_machine.specs.Console.{ConsoleDevice, first_console, after_word}

-- the special registers, the words of memory, the disk's ports and buffer, the words that are viewed, the console, and a write
-- outside memory that is kept until the instruction is done
pub record Board : Type 0 where
  pub special : List ℕ
  pub memory : List ℕ
  pub ports : Ports
  pub buffer : List ℕ
  pub viewed : List ℕ
  pub console : ConsoleDevice
  pub kept : Option PortWrite

-- a board with so many frames of memory, where all is 0 and the disk is idle, and a console with this input
abbrev pub first_board : ℕ → List ℕ → Board
first_board frames inputs = record {
  special = replicate 9 0;
  memory = replicate (1024 * frames) 0;
  ports = idle;
  buffer = replicate 1024 0;
  viewed = replicate 1024 0;
  console = first_console inputs;
  kept = None;
}

-- a machine of this board, which a read looks at
abbrev pub around : Board → State
around b = record {
  cpu = zero_cpu;
  special = b.special;
  memory = b.memory;
  device = device_of b.ports b.buffer [];
  log = b.console.log;
  input = b.console.input;
  mask = 0;
  reset = false;
  off = None;
  time = 0;
}

-- which addresses translation takes
abbrev pub taken_by : Board → Access
taken_by b = access (around b)

-- the word at an address
abbrev pub board_word : Board → ℕ → ℕ
board_word b address = read_at (around b) (located (around b) false address)

-- a physical address is read
abbrev pub read_from : Board → Option ℕ → Board
read_from b physical = record b { console = after_word (length b.memory) b.console physical }

-- an address is read
abbrev pub board_after_load : Board → ℕ → Board
board_after_load b address = read_from b (located (around b) false address)

-- a write to a physical address: of memory it is done, and another one is kept
abbrev pub stored_at : Board → Option ℕ → ℕ → Board
stored_at b None value = b
stored_at b (Some address) value =
    if nat_lt (address / 4) (length b.memory)
    then record b { memory = slice_set b.memory (address / 4) value }
    else record b { kept = Some (record { address = address; value = value }) }

-- a store
abbrev pub board_stored : Board → ℕ → ℕ → Board
board_stored b address value = stored_at b (located (around b) true address) value

-- one instruction over the board ends so
unfoldable pub BoardInstructs : Cpu → Board → StepOutcome → Board → Type 0
BoardInstructs cpu old end new = StepsInMemory taken_by board_word board_after_load board_stored cpu old end new
