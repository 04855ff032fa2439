-- How many steps a run takes, by its turns and its dispatches.
use Rattle.std.specs.Prelude.{◌≡◌, ℕ, ◌+◌, ◌*◌, ◌≤◌, ℤ, Some, length}
use Rattle.c0_tree.specs.Tree.{CUnit}
use Rattle.layer_map.specs.declared.params.Params.{Params}
use Rattle.cvm_model.specs.Kernel.{Core}
use Rattle.cvm_model.specs.KernelMeaning.{kernel_meaning}
use Rattle.cvm_model.specs.Cvm.{System, Cvm, cvm, map_of, reset_steps, turn_steps, enter_steps, leave_steps, run_steps}
use Rattle.cvm_model.specs.Invariant.{dispatches_of}
use Rattle.cvm_model.specs.Systems.{UsePages}

-- a law: within n units a dispatch takes at most n, and the pages that its primitives touch are no more than its units
abbrev pub DispatchesUsePages : Type 0
DispatchesUsePages = (u : CUnit) (p : Params) (n : ℕ) (c : Core) (cause edata user : ℤ) →
    ((kernel_meaning u p).dispatch n c cause edata user).units ≤ n
    × ((kernel_meaning u p).dispatch n c cause edata user).pages ≤ ((kernel_meaning u p).dispatch n c cause edata user).units

-- the steps of so many turns with so many dispatches, each of at most so many units and pages
abbrev pub steps_for : System → (turns dispatches units pages : ℕ) → ℕ
steps_for y turns dispatches units pages =
    reset_steps (map_of y.boot) + turns * turn_steps (map_of y.boot) y.longest
    + dispatches * (enter_steps + leave_steps + run_steps (map_of y.boot) y.longest units pages)

-- THE BOUND IS SMALL: after k turns, whose dispatches are told by the rows, with n units each: by the pages that they touch, or by as many pages as units
pub record BoundIsSmall (y : System) (lines : ℕ → ℕ) (n k : ℕ) (c : Cvm) : Type 0 where
  pub by_pages : (pages : ℕ) → UsePages y n pages (dispatches_of y lines n k) → c.bound ≤ steps_for y k (length c.rows) n pages
  pub by_units : c.bound ≤ steps_for y k (length c.rows) n n
  pub rows : length c.rows ≤ k

abbrev pub BoundsAreSmall : Type 0
BoundsAreSmall = (y : System) (u : CUnit) (lines : ℕ → ℕ) (n k : ℕ) (c : Cvm) → y.boot.meaning ≡ kernel_meaning u y.boot.params →
    cvm y lines n k ≡ Some c → BoundIsSmall y lines n k c
