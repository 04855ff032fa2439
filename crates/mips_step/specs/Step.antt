-- One step of the processor over any bus.
use Rattle.std.specs.Prelude.{◌≡◌, ℕ, Bool, Option, Some, None, MatchBool}
use Rattle.mips_table.specs.declared.inst.Inst.{Inst}
use Rattle.mips_table.specs.declared.cause.Cause.{Cause}
use Rattle.mips_table.specs.declared.cause.Cause.TheVariants as causes
use Rattle.mips_table.specs.declared.effect.Effect.{Effect}
use Rattle.mips_table.specs.declared.effect.Effect.TheVariants.{Set, Wide, Load, Store, Overflow, Call, System}
use Rattle.mips_table.specs.Decoding.{decoding}
use Rattle.mips_table.specs.Effect.{next_address}
use Rattle.mips_table.specs.Processor.{Cpu, went_on, with_loaded, advanced, is_aligned, effect_on}
use Rattle.mips_step.specs.declared.cpu.Outcome.{Outcome}
use Rattle.mips_step.specs.declared.cpu.Outcome.TheVariants.{Done, Trap}

-- how a step ended, and the processor after it
pub record StepOutcome : Type 0 where
  pub outcome : Outcome
  pub cpu : Cpu

-- an instruction that took place
abbrev pub took_place : Cpu → StepOutcome
took_place cpu = record { outcome = Done; cpu = cpu }

-- a trap, with its cause, what it concerns and where to go on; it leaves the registers
abbrev pub trapped_to : Cpu → Cause → ℕ → ℕ → StepOutcome
trapped_to cpu cause edata epc = record { outcome = Trap cause edata; cpu = record cpu { pc = epc } }

-- the processor over a bus whose value has the type S
module _ {S : Type 0} (may_fetch may_load may_store : S → ℕ → Bool) (loads stores : S → ℕ → ℕ → S → Type 0) where
  -- an aligned access that translation takes is done, else it traps
  abbrev pub Accesses : Bool → Cpu → ℕ → S → StepOutcome → S → Type 0 → Type 0
  Accesses may cpu address mid end new Does =
      MatchBool (is_aligned address)
      (MatchBool may Does ((end ≡ trapped_to cpu causes.DataFault address cpu.pc) × (new ≡ mid)))
      ((end ≡ trapped_to cpu causes.DataAlign address cpu.pc) × (new ≡ mid))

  -- what an effect does
  abbrev pub EffectPerforms : Cpu → S → ℕ → Effect → StepOutcome → S → Type 0
  EffectPerforms cpu mid word (Set register value to) end new = (end ≡ took_place (went_on cpu register value to)) × (new ≡ mid)
  EffectPerforms cpu mid word (Wide hi lo to) end new = (end ≡ took_place (record cpu { pc = to; hi = hi; lo = lo })) × (new ≡ mid)
  EffectPerforms cpu mid word (Load register address) end new =
      Accesses (may_load mid address) cpu address mid end new
      ((value : ℕ) × loads mid address value new × (end ≡ took_place (with_loaded (advanced cpu) register value)))
  EffectPerforms cpu mid word (Store address value) end new =
      Accesses (may_store mid address) cpu address mid end new
      (stores mid address value new × (end ≡ took_place (advanced cpu)))
  EffectPerforms cpu mid word Overflow end new = (end ≡ trapped_to cpu causes.Overflow word (next_address cpu.pc)) × (new ≡ mid)
  EffectPerforms cpu mid word Call end new = (end ≡ trapped_to cpu causes.Syscall word (next_address cpu.pc)) × (new ≡ mid)
  EffectPerforms cpu mid word System end new = (end ≡ trapped_to cpu causes.Illegal word cpu.pc) × (new ≡ mid)

  -- what the instruction in a word does, if there is one
  abbrev pub Executes : Cpu → S → ℕ → Option Inst → StepOutcome → S → Type 0
  Executes cpu mid word None end new = (end ≡ trapped_to cpu causes.Illegal word cpu.pc) × (new ≡ mid)
  Executes cpu mid word (Some inst) end new = EffectPerforms cpu mid word (effect_on inst cpu) end new

  -- fetch, then the instruction over the bus that the fetch left
  abbrev pub StepsOver : Cpu → S → StepOutcome → S → Type 0
  StepsOver cpu old end new =
      MatchBool (is_aligned cpu.pc)
      (MatchBool (may_fetch old cpu.pc)
      ((word : ℕ) × (mid : S) × loads old cpu.pc word mid × Executes cpu mid word (decoding word) end new)
      ((end ≡ trapped_to cpu causes.FetchFault cpu.pc cpu.pc) × (new ≡ old)))
      ((end ≡ trapped_to cpu causes.FetchAlign cpu.pc cpu.pc) × (new ≡ old))
