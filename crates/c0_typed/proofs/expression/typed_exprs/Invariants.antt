-- The trees so far, and those of the expressions that are left, are those of all.
use Rattle.std.proofs.Common.{◌≡◌, ◌++◌, map, drop}
use Rattle.c0_tree.specs.View.{expr_view}
use Rattle.c0_typed.specs.SeenEnv.{env_seen}
use Rattle.c0_typed.specs.Typed.{typed_of_expr}
use Rattle.c0_typed.specs.View.{typed_expr_view}
use Rattle.c0_typed.proofs.expression.typed_exprs.Given as goal

abbrev pub invariant-loop-expr : goal.invariant-loop-expr
invariant-loop-expr l =
    map typed_expr_view l.all.items ++ map (typed_of_expr (env_seen l.function)) (map expr_view (drop l.expr-index l.exprs))
    ≡ map (typed_of_expr (env_seen l.function)) (map expr_view l.exprs)
