-- Two for each statement, and a rank: that of statements is the greater.
use Rattle.std.proofs.Common.{◌+◌, ◌*◌}
use Rattle.c0_typed.specs.View.{typed_stmt_view, typed_stmts_view}
use Rattle.c0_stmt_code.proofs.StatementCounts.{stmt_count, stmts_count}
use Rattle.c0_stmt_code.proofs.live.+live.Given as goal

abbrev pub decreases-is_live : goal.decreases-is_live
decreases-is_live l = 2 * stmt_count (typed_stmt_view l.stmt.now)

abbrev pub decreases-are_live : goal.decreases-are_live
decreases-are_live l = 2 * stmts_count (typed_stmts_view l.stmts.now) + 1
