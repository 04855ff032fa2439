-- The physical machine over a layer as the host of a kernel's code: where it has come to, and which calls of primitives it has ended.
use Rattle.std.specs.Prelude.{◌≡◌, ℕ, ◌+◌, ◌<◌, ◌≤◌, List, length, Some, slice_get}
use Rattle.mips_table.specs.declared.inst.Inst.{Inst}
use Rattle.mips_table.specs.Device.{Environment}
use Rattle.mips_table.specs.Code.{World, CodeState, on_machine}
use Rattle.mips_table.specs.Machine.{State, run}
use Rattle.mips_table.specs.Simulation.{configuration_of, Quiet, MemoryHolds, DiskServes}
use Rattle.layer_map.specs.Map.{layer_words}
use Rattle.layer_contract.specs.Layer.{Way}
use Rattle.layer_contract.specs.Follows.{IsKernelDoor}
use Rattle.layer_contract.specs.Calls.{entered, under_way, ended_before, entered_before, EndsCall}
use Rattle.c0_meaning.specs.World.{all_entries}
use Rattle.c0_runs.specs.Runs.{RunsFollow}
use Rattle.cvm_model.specs.Kernel.{Changes}
use Rattle.cvm_model.specs.KernelMeaning.{Machines}
use Rattle.cvm_model.specs.Stands.{Site}
use Rattle.unit_runs.specs.Outer.{Outer}
use Rattle.unit_runs.specs.Placed.{program}

-- what is fixed while a dispatch runs: the outside, the map with the linked words, the unit's code, the words of memory at its entry, the most steps of
-- a disk command, the user for whom it runs, and the machine at its entry
pub record Fixed : Type 0 where
  pub outside : Environment
  pub site : Site
  pub code : List Inst
  pub words : List ℕ
  pub longest : ℕ
  pub current : ℕ
  pub first : State

-- the code behind the kernel's first instruction, as a world
abbrev pub world_of : Environment → Site → List Inst → List ℕ → World
world_of x y code words = on_machine x (program y.map (layer_words + 1) code words)

-- after k steps the machine has this configuration, holds the code, and has met no door of the kernel
pub record HasCome (x : Environment) (y : Site) (code : List Inst) (words : List ℕ) (first : State) (k : ℕ) (c : CodeState) : Type 0 where
  pub same : configuration_of (run x first k) ≡ c
  pub quiet : Quiet x (run x first k)
  pub holds : MemoryHolds (world_of x y code words) (run x first k).memory
  pub serves : DiskServes x (world_of x y code words) (run x first k).device
  pub way : Way x y IsKernelDoor k first

-- At step k so many primitives have ended, and none is under way but one that is entered there. Before it no more were entered.
pub record CountsCalls (x : Environment) (s : State) (k m : ℕ) : Type 0 where
  pub under : under_way x s k ≡ entered 10 (run x s k)
  pub count : ended_before x s k ≡ m
  pub early : (t : ℕ) → t < k → entered_before x s t ≤ m

-- the machine ends each of these calls, at its number
abbrev pub EndsAll : Environment → Site → (longest : ℕ) → State → List Changes → Type 0
EndsAll x y longest first calls = (m : ℕ) (changes : Changes) → slice_get calls m ≡ Some changes → EndsCall x y longest first m changes

-- and at step k it has ended no others
pub record TellsCalls (x : Environment) (y : Site) (longest : ℕ) (first : State) (k : ℕ) (calls : List Changes) : Type 0 where
  pub counts : CountsCalls x first k (length calls)
  pub ends : EndsAll x y longest first calls

-- A LAW: what is left to do, standing in the machine, runs as it means; `told` by the entries of its calls
abbrev pub MachineFollows : Type 0
MachineFollows = (f : Fixed) → RunsFollow Machines Changes (Outer f.site f.current) (HasCome f.outside f.site f.code f.words f.first)
    (λ k v calls. TellsCalls f.outside f.site f.longest f.first k (all_entries calls))
