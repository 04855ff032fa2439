-- A law on what calls of primitives tell: each entry that a checked kernel's dispatch makes passes a test, where primitives pass it on arguments of their
-- types.
use Rattle.std.specs.Prelude.{◌≡◌, ℕ, ℤ, List, Some, slice_get, IsTrue, Bool, FitsSigned}
use Rattle.std.specs.List.{list_all}
use Rattle.std.specs.Int.{w32}
use Rattle.c0_tree.specs.Primitives.{CPrimitive, kernel_primitives}
use Rattle.c0_meaning.specs.Value.{Values}
use Rattle.c0_meaning.specs.State.{C0State}
use Rattle.c0_meaning.specs.World.{PrimitiveMeaning, Setting, journal_so_far}
use Rattle.c0_meaning.specs.Execution.{dispatch}
use Rattle.c0_meaning.specs.RunLaws.{stands_at}
use Rattle.c0_meaning.specs.TypedState.{AreScalars, IsTypedState, AnswersFit}
use Rattle.c0_meaning.specs.Unit.{IsChecked}

-- what a call makes passes, over values of the world that are right
abbrev pub EntriesPass : {W E : Type 0} → (W → Bool) → (E → Bool) → List CPrimitive → PrimitiveMeaning W E → Type 0
EntriesPass is_right test table meaning =
    (n : ℕ) (row : CPrimitive) (args : Values) (w : _) → slice_get table n ≡ Some row → AreScalars row.args args → IsTrue (is_right w)
    → IsTrue (list_all test (meaning n args w).entries)

-- a law: and so do all entries of a dispatch
abbrev pub DispatchesPass : (W E : Type 0) → Type 0
DispatchesPass W E =
    (is_right : W → Bool) (test : E → Bool) (p : Setting W E) (n : ℕ) (cause edata user : ℤ) (s : C0State) (world : W)
    → IsChecked p.unit → AnswersFit is_right kernel_primitives p.meaning → EntriesPass is_right test kernel_primitives p.meaning → IsTypedState p.unit s
    → FitsSigned w32 cause → FitsSigned w32 edata → FitsSigned w32 user → IsTrue (is_right world)
    → IsTrue (list_all test (journal_so_far (stands_at (dispatch p n cause edata user s world))))
