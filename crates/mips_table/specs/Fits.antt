-- Words below 2^32, and lists of their lengths.
use Rattle.std.specs.Prelude.{◌≡◌, ℕ, ◌^◌, ◌<◌, ◌≤◌, List, length, slice_index, All, IfSome}
use Rattle.mips_table.specs.Device.{Device, Pending, Idle, Reading, Writing, Environment, HasEightLines}
use Rattle.mips_table.specs.declared.inst.Inst.{Inst}
use Rattle.mips_table.specs.declared.effect.Effect.{Effect}
use Rattle.mips_table.specs.declared.effect.Effect.TheVariants.{Set, Wide, Load, Store, Overflow, Call, System}
use Rattle.mips_table.specs.Encoding.{InRange}
use Rattle.mips_table.specs.Processor.{Cpu, Access, Move, Ran, Loaded, Stored, Trapped, Privileged, with_loaded, effect_on, move}
use Rattle.mips_table.specs.Machine.{State, power_on, run, LOG_ROOM}

-- a word of 32 bits
abbrev pub IsWord : ℕ → Type 0
IsWord n = n < 2 ^ 32

-- 1,024 words: those of the buffer, and of each sector
pub record IsPage (words : List ℕ) : Type 0 where
  pub size : length words ≡ 1024
  pub each : All IsWord words

-- the sector of a command that is under way is one of the disk's
abbrev pub NamesSector : ℕ → Pending → Type 0
NamesSector count Idle = Unit {0}
NamesSector count (Reading left sector) = sector < count
NamesSector count (Writing left sector) = sector < count

-- a disk of so many sectors
pub record DeviceFits (count : ℕ) (d : Device) : Type 0 where
  pub buffer : IsPage d.buffer
  pub sector : IsWord d.sector
  pub pending : NamesSector count d.pending
  pub sectors : length d.sectors ≡ count
  pub pages : All IsPage d.sectors

-- 32 registers, of which register 0 is 0
pub record AreRegisters (regs : List ℕ) : Type 0 where
  pub size : length regs ≡ 32
  pub each : All IsWord regs
  pub none : slice_index regs 0 ≡ 0

-- nine special registers
pub record AreSpecial (special : List ℕ) : Type 0 where
  pub size : length special ≡ 9
  pub each : All IsWord special

-- the processor has words
pub record CpuFits (c : Cpu) : Type 0 where
  pub pc : IsWord c.pc
  pub regs : AreRegisters c.regs
  pub hi : IsWord c.hi
  pub lo : IsWord c.lo

-- an effect is of words, on one of the 32 registers
abbrev pub EffectFits : Effect → Type 0
EffectFits (Set register value to) = (register < 32) × IsWord value × IsWord to
EffectFits (Wide hi lo to) = IsWord hi × IsWord lo × IsWord to
EffectFits (Load register address) = (register < 32) × IsWord address
EffectFits (Store address value) = IsWord address × IsWord value
EffectFits Overflow = Unit {0}
EffectFits Call = Unit {0}
EffectFits System = Unit {0}

-- what a step of the processor comes to is of words
abbrev pub MoveFits : Move → Type 0
MoveFits (Ran c) = CpuFits c
MoveFits (Loaded c register address) = CpuFits c
MoveFits (Stored c address value) = CpuFits c × IsWord value
MoveFits (Trapped cause edata epc) = IsWord edata × IsWord epc
MoveFits (Privileged word) = IsWord word

-- a processor that has words keeps to words: in the effect of an instruction, in its step, and in a load of a word
pub record KeepsWords : Type 0 where
  pub effects : (i : Inst) (c : Cpu) → CpuFits c → InRange i → EffectFits (effect_on i c)
  pub moves : (a : Access) (c : Cpu) (word : ℕ) → CpuFits c → IsWord word → MoveFits (move a c word)
  pub loads : (c : Cpu) (register value : ℕ) → CpuFits c → IsWord value → CpuFits (with_loaded c register value)

-- the log has room, it and the input have words, and the number of input words is one
pub record ConsoleFits (log input : List ℕ) : Type 0 where
  pub room : length log ≤ LOG_ROOM
  pub logged : All IsWord log
  pub few : IsWord (length input)
  pub left : All IsWord input

-- each word of the machine is below 2^32, each list has its length, and the mask and the outside have eight lines
pub record Fits (x : Environment) (s : State) : Type 0 where
  pub cpu : CpuFits s.cpu
  pub special : AreSpecial s.special
  pub memory : All IsWord s.memory
  pub device : DeviceFits x.count s.device
  pub console : ConsoleFits s.log s.input
  pub lines : HasEightLines x
  pub mask : s.mask < 2 ^ 8
  pub off : IfSome s.off IsWord

-- the machine fits at its start
abbrev pub StartFits : Type 0
StartFits = (x : Environment) (memory : List ℕ) (sectors : List (List ℕ)) (input : List ℕ) → HasEightLines x → All IsWord memory → length sectors ≡ x.count
    → All IsPage sectors → IsWord (length input) → All IsWord input
    → Fits x (power_on memory sectors input)

-- a machine that fits goes on to fit, and its memory keeps its length
abbrev pub StaysFitting : Type 0
StaysFitting = (x : Environment) (s : State) (n : ℕ) → Fits x s → Fits x (run x s n) × (length (run x s n).memory ≡ length s.memory)
