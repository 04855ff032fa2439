-- Four for each node, and a rank: that of what hands the same expressions on is the greater.
use Rattle.std.proofs.Common.{◌+◌, ◌*◌}
use Rattle.c0_typed.specs.Size.{typed_nodes}
use Rattle.c0_typed.specs.View.{typed_expr_view}
use Rattle.c0_expr_code.proofs.test.+testing.Given as goal

abbrev pub decreases-emit_test : goal.decreases-emit_test
decreases-emit_test l = 4 * typed_nodes (typed_expr_view l.expr.now)

abbrev pub decreases-emit_joined : goal.decreases-emit_joined
decreases-emit_joined l = 4 * (typed_nodes (typed_expr_view l.left.now) + typed_nodes (typed_expr_view l.right.now)) + 1

abbrev pub decreases-emit_over : goal.decreases-emit_over
decreases-emit_over l = 4 * (typed_nodes (typed_expr_view l.left.now) + typed_nodes (typed_expr_view l.right.now)) + 1

abbrev pub decreases-emit_both : goal.decreases-emit_both
decreases-emit_both l = 4 * (typed_nodes (typed_expr_view l.left.now) + typed_nodes (typed_expr_view l.right.now)) + 2
