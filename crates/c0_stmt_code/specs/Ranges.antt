-- The instructions of the code of functions are in range.
use Rattle.std.specs.Prelude.{◌≡◌, ℕ, ◌^◌, ◌<◌, List, All, Some, slice_get}
use Rattle.mips_table.specs.Encoding.{InRange}
use Rattle.c0_tree.specs.Primitives.{CPrimitive}
use Rattle.c0_tree.specs.Tree.{CFunction, CUnit}
use Rattle.c0_meaning.specs.TypeAt.{env_in}
use Rattle.c0_meaning.specs.Unit.{IsWellFormed}
use Rattle.c0_expr_code.specs.Laws.{HasNearExits}
use Rattle.c0_expr_code.specs.Scope.{Scope}
use Rattle.c0_stmt_code.specs.Code.{Links, function_code}

-- what calls name lies in the part that jumps reach
pub record AreNear (x : Links) : Type 0 where
  pub function : (n : ℕ) → x.function n < 2 ^ 26
  pub primitive : (n : ℕ) → x.primitive n < 2 ^ 26
  pub new_object : x.new_object < 2 ^ 26

-- a law: so are the instructions of each function of a well formed unit, where jumps reach the exits of faults and what calls name
abbrev pub FunctionsAreInRange : Type 0
FunctionsAreInRange = (primitives : List CPrimitive) (u : CUnit) → IsWellFormed primitives u → (sc : Scope) (x : Links) → HasNearExits sc → AreNear x
    → (n : ℕ) (f : CFunction) → slice_get u.functions n ≡ Some f → sc.env ≡ env_in u f → All InRange (function_code sc x f)
