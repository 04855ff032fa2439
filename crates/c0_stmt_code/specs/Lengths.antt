-- How long the code of functions is.
use Rattle.std.specs.Prelude.{◌≡◌, ◌*◌, ◌≤◌, length}
use Rattle.c0_tree.specs.Tree.{CFunction}
use Rattle.c0_meaning.specs.Limits.{nodes_of}
use Rattle.c0_expr_code.specs.Scope.{Scope}
use Rattle.c0_stmt_code.specs.Code.{Links, function_code}

-- a law: the code of a function is as long wherever what it calls stands
abbrev pub LengthsAreFixed : Type 0
LengthsAreFixed = (sc : Scope) (x y : Links) (f : CFunction) → length (function_code sc x f) ≡ length (function_code sc y f)

-- a law: it has at most 32 words for each node of the function
abbrev pub FunctionsAreShort : Type 0
FunctionsAreShort = (sc : Scope) (x : Links) (f : CFunction) → length (function_code sc x f) ≤ 32 * nodes_of f
