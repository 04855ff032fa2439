-- One so far reads the variable, or one that is left does, exactly where one of all does.
use Rattle.std.proofs.Common.{◌≡◌, map, drop}
use Rattle.std.specs.Prelude.{◌||◌}
use Rattle.c0_typed.specs.View.{typed_expr_view}
use Rattle.c0_stmt_code.specs.TypedLive as spec
use Rattle.c0_stmt_code.proofs.live.any_reads.Given as goal

abbrev pub invariant-loop-expr : goal.invariant-loop-expr
invariant-loop-expr l = (l.any || spec.typed_any_reads (map typed_expr_view (drop l.expr-index l.exprs)) l.variable) ≡ spec.typed_any_reads (map typed_expr_view l.exprs) l.variable
