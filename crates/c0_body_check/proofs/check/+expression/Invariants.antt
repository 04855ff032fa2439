-- The nodes of the expression; a check of what is asked is a step before the check.
use Rattle.std.proofs.Common.{◌+◌, ◌*◌}
use Rattle.c0_tree.specs.Size.{nodes}
use Rattle.c0_tree.specs.View.{expr_view}
use Rattle.c0_body_check.proofs.check.+expression.Given as goal

abbrev pub decreases-check : goal.decreases-check
decreases-check l = 2 * nodes (expr_view l.expr.now)

abbrev pub decreases-check_asked : goal.decreases-check_asked
decreases-check_asked l = 2 * nodes (expr_view l.expr.now) + 1
