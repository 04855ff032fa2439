-- A program of two instructions, with the machines that it runs on: the laws on runs of code aren't empty.
use Rattle.std.specs.Prelude.{◌≡◌, ℕ, false, ◌==◌, if◌then◌else◌, List, [], ◌∷◌, map, slice_get, slice_index}
use Rattle.mips_table.specs.declared.inst.Inst.{Inst}
use Rattle.mips_table.specs.declared.inst.Inst.TheVariants.{Addiu, Sw}
use Rattle.mips_table.specs.Encoding.{encoding}
use Rattle.mips_table.specs.Flat.{Flat}
use Rattle.mips_table.specs.Device.{Environment}
use Rattle.mips_table.specs.Machine.{State, zero_cpu, power_on, run}
use Rattle.mips_table.specs.Code.{Program, on_machine, on_flat, Sound, CodeState, Steps}
use Rattle.mips_table.specs.Simulation.{configuration_of, Quiet, MemoryHolds, DiskServes, flat_configuration, FlatFits, flat_run}

-- 5 is stored in word 7
abbrev pub storing : List Inst
storing = Addiu 1 0 5 ∷ Sw 1 0 28 ∷ []

-- its words, and six more
abbrev pub eight_words : List ℕ
eight_words = encoding (Addiu 1 0 5) ∷ encoding (Sw 1 0 28) ∷ 0 ∷ 0 ∷ 0 ∷ 0 ∷ 0 ∷ 0 ∷ []

-- the code stands at word 0, and is all that is kept
abbrev pub program_at_zero : Program
program_at_zero = record { code = slice_get storing; kept = slice_get (map encoding storing); words = 8; count = 0 }

-- the physical machine that took its reset
abbrev pub machine : State
machine = record (power_on eight_words [] []) { reset = false }

-- the flat machine
abbrev pub flat : Flat
flat = record { cpu = zero_cpu; words = eight_words }

-- on the physical machine the premises are met, and so word 7 is 5 after two steps, whatever lines are raised
pub record OnMachine (x : Environment) : Type 0 where
  pub sound : Sound (on_machine x program_at_zero)
  pub quiet : Quiet x machine
  pub holds : MemoryHolds (on_machine x program_at_zero) machine.memory
  pub serves : DiskServes x (on_machine x program_at_zero) machine.device
  pub end : CodeState
  pub steps : Steps (on_machine x program_at_zero) 2 (configuration_of machine) end
  pub stored : slice_index (run x machine 2).memory 7 ≡ 5

-- on the flat machine the premises are met, and so word 7 is 5 after two steps
pub record OnFlat : Type 0 where
  pub sound : Sound (on_flat program_at_zero)
  pub fits : FlatFits flat
  pub holds : MemoryHolds (on_flat program_at_zero) flat.words
  pub end : CodeState
  pub steps : Steps (on_flat program_at_zero) 2 (flat_configuration flat) end
  pub stored : slice_index (flat_run flat 2).words 7 ≡ 5

-- an outside without sectors, in which lines 0 and 3 are raised at step 1
abbrev pub raising : Environment
raising = record { lines = λ t. if t == 1 then 9 else 0; last = 1; busy = λ _. 0; count = 0 }
