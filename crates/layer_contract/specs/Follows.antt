-- The loaded machine and its run, and when a layer and a boot belong together.
use Rattle.std.specs.Prelude.{true, ◌≡◌, ℕ, ◌-◌, ◌*◌, ◌≤◌, ℤ, if◌then◌else◌, List, ◌++◌, length, map, drop, replicate, slice_index, All}
use Rattle.std.specs.List.{range_with_len}
use Rattle.mips_table.specs.declared.cause.Cause.{Cause}
use Rattle.mips_table.specs.declared.cause.Cause.TheVariants.{External}
use Rattle.mips_table.specs.Arith.{signed}
use Rattle.mips_table.specs.Device.{Environment, HasEightLines, sector_of}
use Rattle.mips_table.specs.Machine.{cause_number}
use Rattle.mips_table.specs.Fits.{IsWord, IsPage}
use Rattle.mips_table.specs.Machine.{State, Interrupt, power_on, latched, coming, step, run}
use Rattle.layer_contract.specs.declared.entry.Entry.{Entry}
use Rattle.layer_contract.specs.declared.entry.Entry.TheVariants.{Primitive, Fault as Exit, Leave}
use Rattle.layer_map.specs.Map.{Map, MapInRange, layer_words, memory_words}
use Rattle.c0_meaning.specs.State.{C0State}
use Rattle.cvm_model.specs.Kernel.{Core, power_of, DispatchEnd, Answers, Faults, NotYet, DispatchOutcome, KernelMeaning, MeaningLaws}
use Rattle.cvm_model.specs.Primitives.{pages_of}
use Rattle.cvm_model.specs.Cvm.{Boot, System, Running, Begin, Steps, Traps, Interrupts, map_of, first_flat, first_core, run_steps}
use Rattle.cvm_model.specs.Paged.{pages_by}
use Rattle.cvm_model.specs.TypedKernel.{StaysTyped}
use Rattle.cvm_model.specs.Stands.{Site, input_room, CoreFits, RunningRelation, runs_user}
use Rattle.layer_contract.specs.declared.registers.TheConstants.{ANSWER}
use Rattle.layer_contract.specs.Layer.{IsEntry, Inside, Way, ComesBy, IsAtEntry, with_epc, Starts, AfterReset}
use Rattle.layer_contract.specs.Calls.{KernelCalled, CallsFollow}

-- the map and the linked words of what is booted
abbrev pub site_of : Boot → Site
site_of b = record { map = map_of b; linked = b.words }

-- the linked words at address 0, and all other memory 0
abbrev pub loaded_memory : Boot → List ℕ
loaded_memory b = b.words ++ replicate (memory_words (map_of b) - length b.words) 0

-- sector q of the loaded disk: a page of a user, or what the sector was
abbrev pub loaded_sector : System → List (List ℕ) → ℕ → List ℕ
loaded_sector y old q =
    let per = y.boot.params.pages in
    let users = (first_core y).users in
    if (pages_by per users).live q then map ((pages_by per users).word q) (range_with_len 0 1024) else sector_of old q

-- the loaded machine, over a disk with these sectors
abbrev pub loaded : System → List (List ℕ) → State
loaded y old = power_on (loaded_memory y.boot) (map (loaded_sector y old) (range_with_len 0 (length old))) y.input

-- eight lines, a system whose words are words, and a disk that is large enough
pub record SystemFits (x : Environment) (y : System) (old : List (List ℕ)) : Type 0 where
  pub lines : HasEightLines x
  pub range : MapInRange (map_of y.boot)
  pub long : layer_words ≤ length y.boot.words
  pub words : All IsWord y.boot.words
  pub input : All IsWord y.input
  pub core : CoreFits (map_of y.boot) (first_core y)
  pub count : length old ≡ x.count
  pub pages : All IsPage old
  pub enough : length y.boot.users * y.boot.params.pages ≤ x.count

-- after its first step it is a state after the reset
abbrev pub LoadedResets : Type 0
LoadedResets = (x : Environment) (y : System) (old : List (List ℕ)) → SystemFits x y old → AfterReset x (site_of y.boot) (first_core y) (run x (loaded y old) 1)

-- A kernel that isn't over within n units still runs after so many steps: one for each 8,388,608 units. No primitive takes as many, and the call of one
-- takes a step.
abbrev pub units_per_step : ℕ
units_per_step = 8388608

-- the entries that a dispatch comes to at its end alone: all but the primitives
abbrev pub IsKernelDoor : Entry → Type 0
IsKernelDoor (Primitive k) = ⊥
IsKernelDoor other = IsEntry other

-- from `dispatch` on, the machine comes to Leave with the answer, or to the fault's exit, as the kernel means it, in the steps of its units
-- and pages; or it is still on its way
abbrev pub EndsAs : Environment → ℕ → Site → ℕ → State → DispatchOutcome → DispatchEnd → Type 0
EndsAs x longest y n s o (Answers a) = ComesBy x y IsKernelDoor (run_steps y.map longest o.units o.pages) s
    (λ t. IsAtEntry x y Leave o.after t × (signed (slice_index t.cpu.regs ANSWER) ≡ a))
EndsAs x longest y n s o (Faults f) = ComesBy x y IsKernelDoor (run_steps y.map longest o.units o.pages) s (IsAtEntry x y (Exit (power_of f)) o.after)
EndsAs x longest y n s o NotYet = (j : ℕ) → units_per_step * j ≤ n → Way x y IsKernelDoor j s × Inside (run x s j)

-- the kernel's code runs as the kernel means, over typed data
abbrev pub KernelRuns : Site → (C0State → Type 0) → KernelMeaning → Type 0
KernelRuns y Typed e = (x : Environment) (longest n : ℕ) (s : State) (c : Core) (cause edata user : ℤ) → KernelCalled x longest y Typed c cause edata user s →
    EndsAs x longest y n s (e.dispatch n c cause edata user) (e.dispatch n c cause edata user).end

-- the layer of these words was made for what is booted: for its map, in range, and its users' sizes
pub record MadeFor (image sizes : List ℕ) (made_for : Map) (b : Boot) : Type 0 where
  pub range : MapInRange made_for
  pub same_map : made_for ≡ map_of b
  pub same_sizes : sizes ≡ map (λ words. pages_of (first_flat words)) b.users
  pub words : b.words ≡ image ++ drop layer_words b.words
  pub users : All (λ words. length words ≤ 1024 * b.params.pages) b.users
  pub starts : (input : List ℕ) (longest : ℕ) → Starts (first_core (record { boot = b; input = input; longest = longest }))
  pub fits : (input : List ℕ) (longest : ℕ) → length input ≤ input_room → CoreFits made_for (first_core (record { boot = b; input = input; longest = longest }))

-- FOLLOWS: and the kernel's code over it runs as the kernel means
pub record Follows (Typed : C0State → Type 0) (image sizes : List ℕ) (made_for : Map) (b : Boot) : Type 0 where
  pub made : MadeFor image sizes made_for b
  pub meaning : MeaningLaws b.meaning
  pub typed : StaysTyped made_for b.meaning Typed
  pub runs : KernelRuns (site_of b) Typed b.meaning
  pub calls : CallsFollow (site_of b) Typed b.meaning

-- what the step that begins a turn after the first comes to: the user's step, or an interrupt to be taken with its cause, edata and epc
abbrev pub BeginsAs : Environment → Site → State → Core → Begin → Type 0
BeginsAs x y s c (Steps after) = RunningRelation x y (step x s) Running after × (runs_user (step x s) ≡ true) × ((step x s).mask ≡ 0)
BeginsAs x y s c (Traps cause edata at) =
    (before : State) × (why : Cause) × (epc : ℕ) × (coming x (latched x s) ≡ Interrupt before why edata epc) × (cause_number why ≡ cause)
    × (with_epc c epc ≡ at)
BeginsAs x y s c (Interrupts cause edata at pending) =
    (coming x (latched x s) ≡ Interrupt (latched x s) External edata s.cpu.pc) × (cause ≡ cause_number External) × (c ≡ at) × (pending ≡ 0)
