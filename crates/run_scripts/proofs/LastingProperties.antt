-- What no effect of an instruction undoes: a property of machines that stays whatever is written to a register, to memory or to a port, and whichever
-- interrupt is taken, holds after what comes in a step, too.
use Rattle.std.specs.Prelude.{Option, Some, None, slice_index, slice_set, nat_lt, not, ◌==◌, ◌&&◌, if◌then◌else◌}
use Rattle.std.proofs.Common.{ℕ, Bool, true, false, List, [], ◌∷◌, ◌++◌, drop, length}
use Rattle.mips_table.specs.declared.special.TheConstants.{SR}
use Rattle.mips_table.specs.declared.cause.Cause.{Cause}
use Rattle.mips_table.specs.declared.cause.Cause.TheVariants.{Reset, External, Illegal}
use Rattle.mips_table.specs.declared.inst.Inst.{Inst}
use Rattle.mips_table.specs.declared.inst.Inst.TheVariants.{Mfc0, Mtc0, Eret}
use Rattle.mips_table.specs.Decoding.{decoding}
use Rattle.mips_table.specs.Processor.{Cpu, Move, Ran, Loaded, Stored, Trapped, Privileged, is_aligned, move}
use Rattle.mips_table.specs.Device.{Environment, POWER, port_write}
use Rattle.mips_table.specs.Machine.{State, LOG, INPUT, Interrupt, interrupted, cleared, come_to, after_read, after_read_at, port_written, written, written_at, log_has_room, in_system, located, privileged, moved, fetch, fetched, access, coming}

-- it stays whatever is written to one of these parts
pub record Stays (x : Environment) (P : State → Type 0) : Type 0 where
  pub cpu : (s : State) (c : Cpu) → P s → P (record s { cpu = c })
  pub special : (s : State) (words : List ℕ) → P s → P (record s { special = words })
  pub memory : (s : State) (words : List ℕ) → P s → P (record s { memory = words })
  pub device : (s : State) (k value : ℕ) → P s → P (record s { device = port_write x.busy x.count s.device k value })
  pub log : (s : State) (words : List ℕ) → P s → P (record s { log = words })
  pub input : (s : State) (words : List ℕ) → P s → P (record s { input = words })
  pub mask : (s : State) (lines : ℕ) → P s → P (record s { mask = lines })
  pub reset : (s : State) → P s → P (record s { reset = false })
  pub off : (s : State) (power : Option ℕ) → P s → P (record s { off = power })

module _ (x : Environment) (P : State → Type 0) (stays : Stays x P) where
  -- A WORD that is written or read
  port_stays : (s : State) (k value : ℕ) → P s → P (port_written x s k value)
  port_stays s k value h = by (k == POWER) (k == LOG) (log_has_room s.log)
    where
      by : (a b c : Bool) → P (if a then record s { off = Some value } else if b then (if c then record s { log = s.log ++ value ∷ [] } else s) else
          record s { device = port_write x.busy x.count s.device k value })
      by true b c = stays.off s (Some value) h
      by false true true = stays.log s (s.log ++ value ∷ []) h
      by false true false = h
      by false false c = stays.device s k value h

  written_stays : (s : State) (k value : ℕ) → P s → P (written x s k value)
  written_stays s k value h = by (nat_lt k (length s.memory))
    where
      by : (a : Bool) → P (if a then record s { memory = slice_set s.memory k value } else port_written x s k value)
      by true = stays.memory s (slice_set s.memory k value) h
      by false = port_stays s k value h

  written_at_stays : (s : State) (o : Option ℕ) (value : ℕ) → P s → P (written_at x s o value)
  written_at_stays s None value h = h
  written_at_stays s (Some address) value h = written_stays s _ value h

  read_stays : (s : State) (k : ℕ) → P s → P (after_read s k)
  read_stays s k h = by (nat_lt k (length s.memory)) (k == INPUT)
    where
      by : (a b : Bool) → P (if a then s else if b then record s { input = drop 1 s.input } else s)
      by true b = h
      by false true = stays.input s (drop 1 s.input) h
      by false false = h

  read_at_stays : (s : State) (o : Option ℕ) → P s → P (after_read_at s o)
  read_at_stays s None h = h
  read_at_stays s (Some address) h = read_stays s _ h

  -- AN INTERRUPT that is taken
  cleared_stays : (s : State) (cause : Cause) → P s → P (cleared cause s)
  cleared_stays s Reset h = stays.reset s h
  cleared_stays s External h = stays.mask s 0 h
  cleared_stays s other h = h

  interrupted_stays : (s : State) (cause : Cause) (edata epc : ℕ) → P s → P (interrupted s cause edata epc)
  interrupted_stays s cause edata epc h = stays.special (record (cleared cause s) { cpu = record s.cpu { pc = 0 } }) _ (stays.cpu (cleared cause s) (record s.cpu { pc = 0 }) (cleared_stays s cause h))

  -- AN INSTRUCTION
  privileged_stays : (s : State) (word : ℕ) (o : Option Inst) → P s → P (come_to (privileged s word o))
  privileged_stays s word (Some (Mfc0 rt special)) h = stays.cpu s _ h
  privileged_stays s word (Some (Mtc0 rt special)) h = stays.cpu (record s { special = slice_set s.special special _ }) _ (stays.special s _ h)
  privileged_stays s word (Some Eret) h = stays.cpu (record s { special = _ }) _ (stays.special s _ h)
  privileged_stays s word other h = interrupted_stays s Illegal word s.cpu.pc h

  moved_stays : (s : State) (m : Move) → P s → P (come_to (moved x s m))
  moved_stays s (Ran c) h = stays.cpu s c h
  moved_stays s (Loaded c register address) h = stays.cpu (after_read_at s (located s false address)) _ (read_at_stays s (located s false address) h)
  moved_stays s (Stored c address value) h = stays.cpu (written_at x s (located s true address) value) c (written_at_stays s (located s true address) value h)
  moved_stays s (Trapped cause edata epc) h = interrupted_stays s cause edata epc h
  moved_stays s (Privileged word) h = by (in_system s.special)
    where
      by : (a : Bool) → P (come_to (if a then privileged s word (decoding word) else Interrupt s Illegal word s.cpu.pc))
      by true = privileged_stays s word (decoding word) h
      by false = interrupted_stays s Illegal word s.cpu.pc h

  fetched_stays : (s : State) → P s → P (fetched s)
  fetched_stays s h = by (is_aligned s.cpu.pc)
    where
      by : (a : Bool) → P (if a then after_read_at s (located s false s.cpu.pc) else s)
      by true = read_at_stays s (located s false s.cpu.pc) h
      by false = h

  -- WHAT COMES in a step
  pub coming_stays : (s : State) → P s → P (come_to (coming x s))
  coming_stays s h = by s.reset (slice_index s.special SR == 1 && not (s.mask == 0))
    where
      by : (a b : Bool) → P (come_to (if a then Interrupt s Reset 0 s.cpu.pc else if b then Interrupt s External s.mask s.cpu.pc else
          moved x (fetched s) (move (access s) s.cpu (fetch s))))
      by true b = interrupted_stays s Reset 0 s.cpu.pc h
      by false true = interrupted_stays s External s.mask s.cpu.pc h
      by false false = moved_stays (fetched s) (move (access s) s.cpu (fetch s)) (fetched_stays s h)
