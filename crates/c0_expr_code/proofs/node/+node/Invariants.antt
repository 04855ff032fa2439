-- Eight for each node, and a rank: that of what hands the same expressions on is the greater.
use Rattle.std.proofs.Common.{◌+◌, ◌*◌}
use Rattle.c0_typed.specs.Size.{typed_nodes}
use Rattle.c0_typed.specs.View.{typed_expr_view}
use Rattle.c0_expr_code.proofs.node.+node.Given as goal

abbrev pub decreases-emit_place : goal.decreases-emit_place
decreases-emit_place l = 8 * typed_nodes (typed_expr_view l.expr.now)

abbrev pub decreases-emit_held : goal.decreases-emit_held
decreases-emit_held l = 8 * typed_nodes (typed_expr_view l.expr.now) + 1

abbrev pub decreases-emit_local : goal.decreases-emit_local
decreases-emit_local l = 8 * typed_nodes (typed_expr_view l.expr.now) + 2

abbrev pub decreases-emit_value : goal.decreases-emit_value
decreases-emit_value l = 8 * typed_nodes (typed_expr_view l.expr.now) + 3

abbrev pub decreases-emit_operand : goal.decreases-emit_operand
decreases-emit_operand l = 8 * typed_nodes (typed_expr_view l.expr.now) + 4

abbrev pub decreases-emit_right : goal.decreases-emit_right
decreases-emit_right l = 8 * typed_nodes (typed_expr_view l.right.now) + 4

abbrev pub decreases-emit_target : goal.decreases-emit_target
decreases-emit_target l = 8 * typed_nodes (typed_expr_view l.pointer.now) + 5

abbrev pub decreases-emit_negative : goal.decreases-emit_negative
decreases-emit_negative l = 8 * typed_nodes (typed_expr_view l.operand.now) + 5

abbrev pub decreases-emit_negation : goal.decreases-emit_negation
decreases-emit_negation l = 8 * typed_nodes (typed_expr_view l.operand.now) + 5

abbrev pub decreases-emit_constant_side : goal.decreases-emit_constant_side
decreases-emit_constant_side l = 8 * typed_nodes (typed_expr_view l.side.now) + 5

abbrev pub decreases-emit_both_sides : goal.decreases-emit_both_sides
decreases-emit_both_sides l = 8 * (typed_nodes (typed_expr_view l.left.now) + typed_nodes (typed_expr_view l.right.now)) + 5

abbrev pub decreases-emit_indexed : goal.decreases-emit_indexed
decreases-emit_indexed l = 8 * (typed_nodes (typed_expr_view l.place.now) + typed_nodes (typed_expr_view l.index.now)) + 6

abbrev pub decreases-emit_right_constant : goal.decreases-emit_right_constant
decreases-emit_right_constant l = 8 * (typed_nodes (typed_expr_view l.left.now) + typed_nodes (typed_expr_view l.right.now)) + 6

abbrev pub decreases-emit_addition : goal.decreases-emit_addition
decreases-emit_addition l = 8 * (typed_nodes (typed_expr_view l.left.now) + typed_nodes (typed_expr_view l.right.now)) + 6

abbrev pub decreases-emit_quotient : goal.decreases-emit_quotient
decreases-emit_quotient l = 8 * (typed_nodes (typed_expr_view l.left.now) + typed_nodes (typed_expr_view l.right.now)) + 6

abbrev pub decreases-emit_logic : goal.decreases-emit_logic
decreases-emit_logic l = 8 * (typed_nodes (typed_expr_view l.left.now) + typed_nodes (typed_expr_view l.right.now)) + 6

abbrev pub decreases-emit_plain : goal.decreases-emit_plain
decreases-emit_plain l = 8 * (typed_nodes (typed_expr_view l.left.now) + typed_nodes (typed_expr_view l.right.now)) + 7
