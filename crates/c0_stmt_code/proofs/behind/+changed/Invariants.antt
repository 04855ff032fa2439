-- Two for each statement, and a rank: that of statements is the greater. What the statements that are left leave of what is known so far is what all
-- of them leave.
use Rattle.std.proofs.Common.{◌≡◌, ◌≤◌, ◌+◌, ◌*◌, drop}
use Rattle.c0_typed.specs.View.{typed_stmt_view, typed_stmts_view}
use Rattle.c0_stmt_code.specs.Behind as spec
use Rattle.c0_stmt_code.proofs.StatementCounts.{stmt_count, stmts_count}
use Rattle.c0_stmt_code.proofs.behind.+changed.Given as goal

abbrev pub decreases-changed : goal.decreases-changed
decreases-changed l = 2 * stmt_count (typed_stmt_view l.stmt.now)

abbrev pub decreases-all_changed : goal.decreases-all_changed
decreases-all_changed l = 2 * stmts_count (typed_stmts_view l.stmts.now) + 1

abbrev pub invariant-all_changed-loop-stmt : goal.invariant-all_changed-loop-stmt
invariant-all_changed-loop-stmt l = record {
  left : spec.all_changed (typed_stmts_view (drop l.stmt-index l.stmts)) l.here ≡ spec.all_changed (typed_stmts_view l.stmts) l.fn.facts;
  count : stmts_count (typed_stmts_view (drop l.stmt-index l.stmts)) ≤ stmts_count (typed_stmts_view l.stmts);
}
