-- How large a typed tree is: the registers that its expressions need, and its nodes.
use Rattle.std.specs.Prelude.{ℕ, ◌+◌, ◌≤◌, max}
use Rattle.c0_tree.specs.Size.{need}
use Rattle.c0_tree.specs.Tree.{CExpr}
use Rattle.c0_meaning.specs.Env.{Env}
use Rattle.c0_typed.specs.Tree.{TExpr, global, local, part, element, target, constant, address, negative, negation, plain, quotient, remainder, both, either}
use Rattle.c0_typed.specs.Typed.{typed_of_expr}

-- the registers that an expression needs: `&&` and `||` hold no value while their right side is evaluated
abbrev pub typed_need : TExpr → ℕ
typed_need (global n) = 1
typed_need (local n w) = 1
typed_need (part p n) = typed_need p
typed_need (element p i x) = max (typed_need p) (typed_need i + 1)
typed_need (target p) = typed_need p
typed_need (constant n) = 1
typed_need (address p) = typed_need p
typed_need (negative e) = typed_need e
typed_need (negation e) = typed_need e
typed_need (plain o a b) = max (typed_need a) (typed_need b + 1)
typed_need (quotient a b) = max (typed_need a) (typed_need b + 1)
typed_need (remainder a b) = max (typed_need a) (typed_need b + 1)
typed_need (both a b) = max (typed_need a) (typed_need b)
typed_need (either a b) = max (typed_need a) (typed_need b)

-- an expression's nodes: itself and its parts
abbrev pub typed_nodes : TExpr → ℕ
typed_nodes (global n) = 1
typed_nodes (local n w) = 1
typed_nodes (part p n) = typed_nodes p + 1
typed_nodes (element p i x) = typed_nodes p + typed_nodes i + 1
typed_nodes (target p) = typed_nodes p + 1
typed_nodes (constant n) = 1
typed_nodes (address p) = typed_nodes p + 1
typed_nodes (negative e) = typed_nodes e + 1
typed_nodes (negation e) = typed_nodes e + 1
typed_nodes (plain o a b) = typed_nodes a + typed_nodes b + 1
typed_nodes (quotient a b) = typed_nodes a + typed_nodes b + 1
typed_nodes (remainder a b) = typed_nodes a + typed_nodes b + 1
typed_nodes (both a b) = typed_nodes a + typed_nodes b + 1
typed_nodes (either a b) = typed_nodes a + typed_nodes b + 1

-- a law: a typed tree needs no more registers than the expression
abbrev pub NeedsAreFew : Type 0
NeedsAreFew = (env : Env) (e : CExpr) → typed_need (typed_of_expr env e) ≤ need e
