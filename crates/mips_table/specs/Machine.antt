-- The physical machine: one step of it, with the lines and the busy times that the outside gives, and its run.
use Rattle.std.specs.Prelude.{ℕ, zero, suc, ◌+◌, ◌*◌, ◌/◌, ◌%◌, ◌^◌, Bool, true, false, not, ◌&&◌, ◌||◌, ◌==◌, nat_lt}
use Rattle.std.specs.Prelude.{if◌then◌else◌, List, [], ◌∷◌, ◌++◌, length, drop, replicate, slice_index, slice_set, bit_or, Option, Some, None, is_some}
use Rattle.mips_table.specs.declared.special.TheConstants.{SR, ESR, EPC, PTO, PTL, MODE, EMODE, IS_VALID, IS_PROTECTED}
use Rattle.mips_table.specs.declared.console.TheConstants as constants
use Rattle.mips_table.specs.declared.inst.Inst.{Inst}
use Rattle.mips_table.specs.declared.inst.Inst.TheVariants.{Mfc0, Mtc0, Eret}
use Rattle.mips_table.specs.declared.cause.Cause.{Cause}
use Rattle.mips_table.specs.declared.cause.Cause.TheVariants.{Reset, External, FetchAlign, FetchFault, Illegal, Overflow, Syscall, DataAlign, DataFault}
use Rattle.mips_table.specs.Decoding.{decoding}
use Rattle.mips_table.specs.Effect.{next_address}
use Rattle.mips_table.specs.Processor.{Cpu, Access, Move, Ran, Loaded, Stored, Trapped, Privileged, went_on, with_loaded, advanced, is_aligned, move}
use Rattle.mips_table.specs.Device.{Device, Idle, Environment, POWER, port_read, port_write, disk_counted}

-- The ports of the console, by word number: a write to the log appends, and a read gives its length; at fffff00c.
abbrev pub LOG : ℕ
LOG = 0x3ffffc03

-- how many input words are left, at fffff010
abbrev pub LEFT : ℕ
LEFT = 0x3ffffc04

-- the next input word, which a read takes, at fffff014
abbrev pub INPUT : ℕ
INPUT = 0x3ffffc05

-- the most words that the log has
abbrev pub LOG_ROOM : ℕ
LOG_ROOM = constants.LOG_ROOM

-- a log has room for one word more: a word for a log that is full is lost
abbrev pub log_has_room : List ℕ → Bool
log_has_room log = nat_lt (length log) LOG_ROOM

-- what a kernel meets of the console: the words of its log, and the input that is left
pub record Console : Type 0 where
  pub log : List ℕ
  pub input : List ℕ

-- the processor, the nine special registers, the words of memory, the disk, the console's log and the input that is left, the mask
-- of latched lines, the reset latch, the power word once it is off, and the number of steps done
pub record State : Type 0 where
  pub cpu : Cpu
  pub special : List ℕ
  pub memory : List ℕ
  pub device : Device
  pub log : List ℕ
  pub input : List ℕ
  pub mask : ℕ
  pub reset : Bool
  pub off : Option ℕ
  pub time : ℕ

-- pc, registers, hi and lo are 0
abbrev pub zero_cpu : Cpu
zero_cpu = record { pc = 0; regs = replicate 32 0; hi = 0; lo = 0 }

-- how the machine starts with these words of memory, sectors and input: all else is 0 or empty, and the reset is latched
abbrev pub power_on : List ℕ → List (List ℕ) → List ℕ → State
power_on memory sectors input = record {
  cpu = zero_cpu;
  special = replicate 9 0;
  memory = memory;
  device = record { buffer = replicate 1024 0; sector = 0; pending = Idle; commands = 0; sectors = sectors };
  log = [];
  input = input;
  mask = 0;
  reset = true;
  off = None;
  time = 0;
}

-- the number of a cause
abbrev pub cause_number : Cause → ℕ
cause_number Reset = 0
cause_number External = 1
cause_number FetchAlign = 2
cause_number FetchFault = 3
cause_number Illegal = 4
cause_number Overflow = 5
cause_number Syscall = 6
cause_number DataAlign = 7
cause_number DataFault = 8

-- whether the special registers say system mode
abbrev pub in_system : List ℕ → Bool
in_system special = slice_index special MODE == 0

-- the address of the page table's entry for an address
abbrev pub pte_address : ℕ → ℕ → ℕ
pte_address address pto = (pto + 4 * (address / 4096)) % 2 ^ 32

-- bit 11 of an entry, the mask IS_VALID, says that it is valid
abbrev pub is_valid : ℕ → Bool
is_valid entry = entry / IS_VALID % 2 == 1

-- bit 10 of an entry, the mask IS_PROTECTED, says that it is protected: no store goes there
abbrev pub is_protected : ℕ → Bool
is_protected entry = entry / IS_PROTECTED % 2 == 1

-- translation in user mode, by the page table's entry: the physical address, unless the address is refused
abbrev pub translated : ℕ → ℕ → Bool → ℕ → Option ℕ
translated address ptl is_store entry =
    if nat_lt (address / 4096) ptl && is_valid entry && not (is_store && is_protected entry)
    then Some (entry / 4096 * 4096 + address % 4096)
    else None

-- the physical address of an address: in system mode it is the same; an entry outside memory is 0
abbrev pub located : State → Bool → ℕ → Option ℕ
located s is_store address =
    if in_system s.special then Some address else
    translated address (slice_index s.special PTL) is_store (slice_index s.memory (pte_address address (slice_index s.special PTO) / 4))

-- what a port gives
abbrev pub port_word : State → ℕ → ℕ
port_word s k =
    if k == LOG then length s.log else
    if k == LEFT then length s.input else
    if k == INPUT then slice_index s.input 0 else
    port_read s.device k

-- a physical word is read: of memory, or of a port
abbrev pub read_physical : State → ℕ → ℕ
read_physical s k = if nat_lt k (length s.memory) then slice_index s.memory k else port_word s k

-- the state after that: a read of the input port takes its word
abbrev pub after_read : State → ℕ → State
after_read s k = if nat_lt k (length s.memory) then s else if k == INPUT then record s { input = drop 1 s.input } else s

-- the word at a physical address
abbrev pub read_at : State → Option ℕ → ℕ
read_at s None = 0
read_at s (Some address) = read_physical s (address / 4)

-- the state after that
abbrev pub after_read_at : State → Option ℕ → State
after_read_at s None = s
after_read_at s (Some address) = after_read s (address / 4)

-- a write to a port: to the power port, to the log, which is lost where the log is full, or to the disk
abbrev pub port_written : Environment → State → ℕ → ℕ → State
port_written x s k value =
    if k == POWER then record s { off = Some value } else
    if k == LOG then (if log_has_room s.log then record s { log = s.log ++ value ∷ [] } else s) else
    record s { device = port_write x.busy x.count s.device k value }

-- a physical word is written: of memory, or of a port
abbrev pub written : Environment → State → ℕ → ℕ → State
written x s k value = if nat_lt k (length s.memory) then record s { memory = slice_set s.memory k value } else port_written x s k value

-- a write to a physical address
abbrev pub written_at : Environment → State → Option ℕ → ℕ → State
written_at x s None value = s
written_at x s (Some address) value = written x s (address / 4) value

-- which addresses the processor may use
abbrev pub access : State → Access
access s = record {
  may_fetch = λ address. is_some (located s false address);
  may_load = λ address. is_some (located s false address);
  may_store = λ address. is_some (located s true address);
}

-- the special registers of which a write keeps bit 0 alone
abbrev pub is_flag : ℕ → Bool
is_flag special = special == SR || special == ESR || special == MODE || special == EMODE

-- what mtc0 writes to a special register
abbrev pub flagged : ℕ → ℕ → ℕ
flagged special value = if is_flag special then value % 2 else value

-- the special registers once an interrupt is taken: sr, esr, eca, epc, edata, pto, ptl, mode, emode
abbrev pub taken : List ℕ → ℕ → ℕ → ℕ → List ℕ
taken special cause edata epc =
    0 ∷ slice_index special SR ∷ cause ∷ epc ∷ edata ∷ slice_index special PTO ∷ slice_index special PTL ∷ 0 ∷ slice_index special MODE ∷ []

-- the special registers after eret: sr and mode are those from before the interrupt
abbrev pub left : List ℕ → List ℕ
left special = slice_set (slice_set special SR (slice_index special ESR)) MODE (slice_index special EMODE)

-- what comes in a step of a machine that is on: an interrupt, with the state in which it is taken, or the state that the instruction leaves
pub data Coming : Type 0 where
  Interrupt : (before : State) (cause : Cause) (edata epc : ℕ) → Coming
  Done : (after : State) → Coming

-- an instruction with opcode 10 (hexadecimal), in system mode
abbrev pub privileged : State → ℕ → Option Inst → Coming
privileged s word (Some (Mfc0 rt special)) = Done (record s { cpu = went_on s.cpu rt (slice_index s.special special) (next_address s.cpu.pc) })
privileged s word (Some (Mtc0 rt special)) =
    Done (record s { special = slice_set s.special special (flagged special (slice_index s.cpu.regs rt)); cpu = advanced s.cpu })
privileged s word (Some Eret) = Done (record s { special = left s.special; cpu = record s.cpu { pc = slice_index s.special EPC } })
privileged s word other = Interrupt s Illegal word s.cpu.pc

-- what comes of the processor's move, once the instruction is fetched
abbrev pub moved : Environment → State → Move → Coming
moved x s (Ran c) = Done (record s { cpu = c })
moved x s (Loaded c register address) =
    Done (record (after_read_at s (located s false address)) { cpu = with_loaded c register (read_at s (located s false address)) })
moved x s (Stored c address value) = Done (record (written_at x s (located s true address) value) { cpu = c })
moved x s (Trapped cause edata epc) = Interrupt s cause edata epc
moved x s (Privileged word) = if in_system s.special then privileged s word (decoding word) else Interrupt s Illegal word s.cpu.pc

-- the word that a fetch gives
abbrev pub fetch : State → ℕ
fetch s = read_at s (located s false s.cpu.pc)

-- the state after the fetch: one from the input port takes its word, and a misaligned or refused one is none
abbrev pub fetched : State → State
fetched s = if is_aligned s.cpu.pc then after_read_at s (located s false s.cpu.pc) else s

-- the interrupt with the least cause, or else the instruction
abbrev pub coming : Environment → State → Coming
coming x s =
    if s.reset then Interrupt s Reset 0 s.cpu.pc else
    if slice_index s.special SR == 1 && not (s.mask == 0) then Interrupt s External s.mask s.cpu.pc else
    moved x (fetched s) (move (access s) s.cpu (fetch s))

-- taking the reset clears its latch, and taking an external interrupt the mask
abbrev pub cleared : Cause → State → State
cleared Reset s = record s { reset = false }
cleared External s = record s { mask = 0 }
cleared other s = s

-- an interrupt changes no register and no memory
abbrev pub interrupted : State → Cause → ℕ → ℕ → State
interrupted s cause edata epc = record (cleared cause s) { cpu = record s.cpu { pc = 0 }; special = taken s.special (cause_number cause) edata epc }

-- the state that comes
abbrev pub come_to : Coming → State
come_to (Interrupt s cause edata epc) = interrupted s cause edata epc
come_to (Done after) = after

-- the lines of the step are latched
abbrev pub latched : Environment → State → State
latched x s = record s { mask = bit_or s.mask (x.lines s.time) }

-- the step is done, and the disk counts
abbrev pub step_ended : State → State
step_ended s = record s { device = disk_counted s.device; time = s.time + 1 }

-- one step of a machine that is on: the lines, then the interrupt or the instruction, then the disk
abbrev pub stepped : Environment → State → State
stepped x s = step_ended (come_to (coming x (latched x s)))

-- a machine that is off stays as it is
abbrev pub if_on : Environment → State → Option ℕ → State
if_on x s (Some word) = s
if_on x s None = stepped x s

-- one step
unfoldable pub step : Environment → State → State
step x s = if_on x s s.off

-- the machine after so many steps
abbrev pub run : Environment → State → ℕ → State
run x s zero = s
run x s (suc n) = step x (run x s n)
