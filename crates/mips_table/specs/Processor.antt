-- One instruction of the processor: what it does, or which trap comes. Loads and stores are asked for, and not done.
use Rattle.std.specs.Prelude.{ℕ, ◌%◌, Bool, not, ◌==◌, if◌then◌else◌, List, slice_index, slice_set, Option, Some, None}
use Rattle.mips_table.specs.declared.inst.Inst.{Inst}
use Rattle.mips_table.specs.declared.cause.Cause.{Cause}
use Rattle.mips_table.specs.declared.cause.Cause.TheVariants as causes
use Rattle.mips_table.specs.declared.effect.Effect.{Effect}
use Rattle.mips_table.specs.declared.effect.Effect.TheVariants.{Set, Wide, Load, Store, Overflow, Call, System}
use Rattle.mips_table.specs.Decoding.{decoding}
use Rattle.mips_table.specs.Effect.{next_address, effect_of}

-- pc, registers 0 to 31 (register 0 is 0), hi and lo
pub record Cpu : Type 0 where
  pub pc : ℕ
  pub regs : List ℕ
  pub hi : ℕ
  pub lo : ℕ

-- which aligned addresses translation takes
pub record Access : Type 0 where
  pub may_fetch : ℕ → Bool
  pub may_load : ℕ → Bool
  pub may_store : ℕ → Bool

-- What a step comes to: the processor after it, and the load to a register or the store that it asks for; a trap with its cause,
-- edata and epc; or an instruction with opcode 10 (hexadecimal), whose word is told.
pub data Move : Type 0 where
  Ran : (after : Cpu) → Move
  Loaded : (after : Cpu) (register address : ℕ) → Move
  Stored : (after : Cpu) (address value : ℕ) → Move
  Trapped : (cause : Cause) (edata epc : ℕ) → Move
  Privileged : (word : ℕ) → Move

-- a write to a register; register 0 stays as it is
abbrev pub write_register : List ℕ → ℕ → ℕ → List ℕ
write_register regs register value = if register == 0 then regs else slice_set regs register value

-- the processor with a register written, and its pc elsewhere
abbrev pub went_on : Cpu → ℕ → ℕ → ℕ → Cpu
went_on c register value to = record c { pc = to; regs = write_register c.regs register value }

-- the processor with a register loaded
abbrev pub with_loaded : Cpu → ℕ → ℕ → Cpu
with_loaded c register value = record c { regs = write_register c.regs register value }

-- the processor at the next instruction
abbrev pub advanced : Cpu → Cpu
advanced c = record c { pc = next_address c.pc }

-- whether an address is that of a word
abbrev pub is_aligned : ℕ → Bool
is_aligned address = address % 4 == 0

-- an access: it goes on as move says, or it traps where the address isn't aligned or is refused
abbrev pub accessed : Bool → Cause → Cause → ℕ → ℕ → Move → Move
accessed may misaligned refused address pc move =
    if not (is_aligned address) then Trapped misaligned address pc else
    if not may then Trapped refused address pc else
    move

-- what comes of an effect
abbrev pub performed : Access → Cpu → ℕ → Effect → Move
performed a c word (Set register value to) = Ran (went_on c register value to)
performed a c word (Wide hi lo to) = Ran (record c { pc = to; hi = hi; lo = lo })
performed a c word (Load register address) = accessed (a.may_load address) causes.DataAlign causes.DataFault address c.pc (Loaded (advanced c) register address)
performed a c word (Store address value) = accessed (a.may_store address) causes.DataAlign causes.DataFault address c.pc (Stored (advanced c) address value)
performed a c word Overflow = Trapped causes.Overflow word (next_address c.pc)
performed a c word Call = Trapped causes.Syscall word (next_address c.pc)
performed a c word System = Privileged word

-- the effect of an instruction on a processor
abbrev pub effect_on : Inst → Cpu → Effect
effect_on inst c = effect_of inst c.pc (slice_index c.regs) c.hi c.lo

-- what comes of the instruction in a word, if there is one
abbrev pub executed : Access → Cpu → ℕ → Option Inst → Move
executed a c word None = Trapped causes.Illegal word c.pc
executed a c word (Some inst) = performed a c word (effect_on inst c)

-- one step, where the fetch gives this word: the fetch, and then the instruction
abbrev pub move : Access → Cpu → ℕ → Move
move a c word = accessed (a.may_fetch c.pc) causes.FetchAlign causes.FetchFault c.pc c.pc (executed a c word (decoding word))
