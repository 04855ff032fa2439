-- The primitives that the machine has ended, counted on its run, and how they follow those of a dispatch.
use Rattle.std.specs.Prelude.{◌≡◌, ℕ, zero, suc, ◌+◌, ◌≤◌, ℤ, ◌&&◌, ◌==◌, if◌then◌else◌, length, slice_get, slice_index, Option, Some, None}
use Rattle.mips_table.specs.Device.{Environment}
use Rattle.mips_table.specs.Machine.{in_system}
use Rattle.mips_table.specs.Machine.{State, run}
use Rattle.mips_table.specs.Turns.{is_on}
use Rattle.layer_contract.specs.declared.entry.Entry.TheVariants.{Primitive}
use Rattle.c0_meaning.specs.State.{C0State}
use Rattle.cvm_model.specs.Kernel.{Core, Changes, KernelMeaning}
use Rattle.cvm_model.specs.Primitives.{KernelCall, changes_told}
use Rattle.cvm_model.specs.Stands.{Site}
use Rattle.layer_contract.specs.declared.registers.TheConstants.{RETURN}
use Rattle.layer_contract.specs.Layer.{layer_entry, Inside, DispatchCalled, PrimitiveCalled, ComesBack, BusyWithin, given}

-- the return address where the machine is at the entry of one of the first k primitives
abbrev pub entered : ℕ → State → Option ℕ
entered zero s = None
entered (suc k) s = if is_on s && in_system s.special && s.cpu.pc == layer_entry (Primitive k) then Some (slice_index s.cpu.regs RETURN) else entered k s

-- the return address of the primitive that is under way
abbrev pub return_address : State → Option ℕ → Option ℕ
return_address s None = entered 10 s
return_address s (Some back) = if s.cpu.pc == back then None else Some back

abbrev pub under_way : Environment → State → ℕ → Option ℕ
under_way x s zero = None
under_way x s (suc t) = return_address (run x s (suc t)) (under_way x s t)

-- 1 where the primitive ends here
abbrev pub ends_here : State → Option ℕ → ℕ
ends_here s None = 0
ends_here s (Some back) = if s.cpu.pc == back then 1 else 0

-- how many primitives have ended up to step t
abbrev pub ended_before : Environment → State → ℕ → ℕ
ended_before x s zero = 0
ended_before x s (suc t) = ended_before x s t + ends_here (run x s (suc t)) (under_way x s t)

-- 1 where a primitive is under way
abbrev pub busy_count : Option ℕ → ℕ
busy_count None = 0
busy_count (Some back) = 1

-- how many have been entered up to step t
abbrev pub entered_before : Environment → State → ℕ → ℕ
entered_before x s t = ended_before x s t + busy_count (under_way x s t)

-- One call of a primitive, the m-th to end since s: none is under way before its entry, from there it comes back, and the return, which is
-- the first, ends it. The machine stands there for what the call comes to. It is the call that is told: by its number, its arguments and what it changed.
pub record EndsCall (x : Environment) (y : Site) (longest : ℕ) (s : State) (m : ℕ) (changes : Changes) : Type 0 where
  pub entry : ℕ
  pub core : Core
  pub call : KernelCall
  pub inside : (j : ℕ) → j ≤ entry → Inside (run x s j)
  pub idle : (j : ℕ) → suc j ≡ entry → under_way x s j ≡ None
  pub called : PrimitiveCalled x y core call (run x s entry)
  pub back : ComesBack x y longest core call (run x s entry)
  pub ended : ended_before x s entry ≡ m
  pub ends : ended_before x s (entry + back.comes.steps) ≡ suc m
  pub same : changes ≡ changes_told call (given y core call)

-- what is known where the kernel's code begins: `dispatch` is called over typed data, and no command is busier than `longest`
pub record KernelCalled (x : Environment) (longest : ℕ) (y : Site) (Typed : C0State → Type 0) (c : Core) (cause edata user : ℤ) (s : State) : Type 0 where
  pub busy : BusyWithin x longest
  pub typed : Typed c.c0
  pub called : DispatchCalled x y c cause edata user s

-- The calls that a dispatch has ended are those that the machine ends, in order; and the machine enters no more of them in so many steps
-- than the dispatch ends within some number of units.
pub record CallsFollow (y : Site) (Typed : C0State → Type 0) (e : KernelMeaning) : Type 0 where
  pub each : (x : Environment) (longest n m : ℕ) (s : State) (c : Core) (cause edata user : ℤ) (changes : Changes)
      → KernelCalled x longest y Typed c cause edata user s →
      slice_get (e.dispatch n c cause edata user).calls m ≡ Some changes → EndsCall x y longest s m changes
  pub no_more : (x : Environment) (longest t : ℕ) (s : State) (c : Core) (cause edata user : ℤ) → KernelCalled x longest y Typed c cause edata user s →
      ((j : ℕ) → j ≤ t → Inside (run x s j)) → (n : ℕ) × (entered_before x s t ≤ length (e.dispatch n c cause edata user).calls)
