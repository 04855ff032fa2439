-- What is known behind the expressions that are left is what is known behind all.
use Rattle.std.proofs.Common.{◌≡◌, drop, map}
use Rattle.c0_typed.specs.View.{typed_expr_view}
use Rattle.c0_stmt_code.specs.Behind as spec
use Rattle.c0_stmt_code.proofs.behind.all_followed.Given as goal

abbrev pub invariant-loop-expr : goal.invariant-loop-expr
invariant-loop-expr l = spec.all_followed (map typed_expr_view (drop l.expr-index l.exprs)) l.here ≡ spec.all_followed (map typed_expr_view l.exprs) l.fn.facts
