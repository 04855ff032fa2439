-- What is known of a kernel by the primitives that its source calls: that it changes no user's machine, and that its dispatches touch no page of one.
use Rattle.std.specs.Prelude.{◌≡◌, ℕ, ℤ, Bool, not, ◌||◌, ◌==◌, IsTrue, List, []}
use Rattle.layer_map.specs.declared.params.Params.{Params}
use Rattle.c0_tree.specs.Tree.{CUnit}
use Rattle.cvm_model.specs.Kernel.{Core, KernelMeaning}
use Rattle.cvm_model.specs.KernelMeaning.{kernel_meaning}
use Rattle.cvm_model.specs.Cvm.{System}
use Rattle.cvm_model.specs.Invariant.{Dispatch}
use Rattle.cvm_model.specs.Journal.{changes_of}
use Rattle.cvm_model.specs.Systems.{UsePages}
use Rattle.called_primitives.specs.Calls.{calls_only}

-- A KERNEL THAT LEAVES user u ALONE: in whatever state its dispatch is called, for whatever cause, data and user, and however far it comes, no primitive that
-- it calls changes a register, a word or the size of that user's machine
abbrev pub LeavesAlone : KernelMeaning → ℕ → Type 0
LeavesAlone e u = (n : ℕ) (c : Core) (cause edata user : ℤ) → changes_of u (e.dispatch n c cause edata user).calls ≡ []

-- A KERNEL THAT CHANGES NO MACHINE: it leaves each user alone, and the machines are the same after each of its dispatches
pub record ChangesNoMachine (e : KernelMeaning) : Type 0 where
  pub alone : (u : ℕ) → LeavesAlone e u
  pub same : (n : ℕ) (c : Core) (cause edata user : ℤ) → (e.dispatch n c cause edata user).after.users ≡ c.users

-- the numbers of primitives that change a machine or touch its pages, as `primitive_number` has them
abbrev pub VM_SET : ℕ
VM_SET = 1

abbrev pub VM_RESIZE : ℕ
VM_RESIZE = 3

abbrev pub VM_WORD : ℕ
VM_WORD = 4

abbrev pub VM_PUT : ℕ
VM_PUT = 5

abbrev pub VM_COPY : ℕ
VM_COPY = 6

-- the primitives that change no machine: all but these four
abbrev pub only_reads : ℕ → Bool
only_reads n = not (n == VM_SET || n == VM_RESIZE || n == VM_PUT || n == VM_COPY)

-- A LAW: a unit that calls these alone is such a kernel
abbrev pub ReadersChangeNone : Type 0
ReadersChangeNone = (u : CUnit) (p : Params) → IsTrue (calls_only only_reads u) → ChangesNoMachine (kernel_meaning u p)

-- A KERNEL THAT TOUCHES NO PAGE: none of its dispatches does
abbrev pub TouchesNoPage : KernelMeaning → Type 0
TouchesNoPage e = (n : ℕ) (c : Core) (cause edata user : ℤ) → (e.dispatch n c cause edata user).pages ≡ 0

-- the primitives that touch no page: all but these four
abbrev pub needs_no_page : ℕ → Bool
needs_no_page n = not (n == VM_RESIZE || n == VM_WORD || n == VM_PUT || n == VM_COPY)

-- A LAW: a unit that calls these alone is such a kernel, whatever loops it has; so in a bound on steps its dispatches count no page
pub record PagelessTouchNone : Type 0 where
  pub touches : (u : CUnit) (p : Params) → IsTrue (calls_only needs_no_page u) → TouchesNoPage (kernel_meaning u p)
  pub dispatches : (y : System) (n : ℕ) (past : List Dispatch) → TouchesNoPage y.boot.meaning → UsePages y n 0 past
