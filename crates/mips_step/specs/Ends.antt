-- How a step over a memory ends, by the one definition of a step. A memory is seen as a value of the type V.
use Rattle.std.specs.Prelude.{◌≡◌, ℕ, if◌then◌else◌}
use Rattle.mips_table.specs.declared.cause.Cause.TheVariants as causes
use Rattle.mips_table.specs.Processor.{Cpu, Access, Move, Ran, Loaded, Stored, Trapped, Privileged, with_loaded, is_aligned, move}
use Rattle.mips_step.specs.Step.{StepOutcome, took_place, trapped_to}

-- a read, by a fetch or a load, answers the word that is seen there, and leaves what read says
abbrev pub BusReads : {V : Type 0} → (V → ℕ → ℕ) → (V → ℕ → V) → V → ℕ → ℕ → V → Type 0
BusReads word read old address value new = (value ≡ word old address) × (new ≡ read old address)

-- which addresses are taken, the word at each, and what is seen after a read and after a store
module _ {V : Type 0} (access : V → Access) (word : V → ℕ → ℕ) (read : V → ℕ → V) (written : V → ℕ → ℕ → V) where
  -- what is seen after the fetch: a misaligned or refused one reads nothing
  abbrev pub after_fetch : V → ℕ → V
  after_fetch v pc = if is_aligned pc then (if (access v).may_fetch pc then read v pc else v) else v

  -- the step of this processor comes to this move, over what is seen after its fetch
  abbrev pub StepEnds : Cpu → V → Move → StepOutcome → V → Type 0
  StepEnds cpu seen (Ran after) end new = (end ≡ took_place after) × (new ≡ seen)
  StepEnds cpu seen (Loaded after register address) end new = (end ≡ took_place (with_loaded after register (word seen address))) × (new ≡ read seen address)
  StepEnds cpu seen (Stored after address value) end new = (end ≡ took_place after) × (new ≡ written seen address value)
  StepEnds cpu seen (Trapped cause edata epc) end new = (end ≡ trapped_to cpu cause edata epc) × (new ≡ seen)
  StepEnds cpu seen (Privileged code) end new = (end ≡ trapped_to cpu causes.Illegal code cpu.pc) × (new ≡ seen)

  -- one step: the fetch, and then the move over what it left
  abbrev pub StepsInMemory : Cpu → V → StepOutcome → V → Type 0
  StepsInMemory cpu old end new = StepEnds cpu (after_fetch old cpu.pc) (move (access old) cpu (word old cpu.pc)) end new
