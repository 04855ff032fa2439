-- Eight for each statement, and a rank: that of what hands the same statements on is the greater. The code so far and that of the statements that are left
-- is the code of all.
use Rattle.std.proofs.Common.{◌≡◌, ◌≤◌, ◌+◌, ◌*◌, ◌++◌, drop, map}
use Rattle.mips_table.specs.Encoding.{encoding}
use Rattle.c0_typed.specs.View.{typed_stmt_view, typed_stmts_view}
use Rattle.c0_expr_code.specs.SettingIn.{setting_in}
use Rattle.c0_stmt_code.specs.Code.{links_of}
use Rattle.c0_stmt_code.specs.TypedCode.{typed_stmts_code}
use Rattle.c0_stmt_code.specs.TypedFunction.{FitRegisters}
use Rattle.c0_stmt_code.proofs.StatementCounts.{stmt_count, stmts_count}
use Rattle.c0_stmt_code.proofs.statement.+statement.Given as goal

abbrev pub decreases-emit_statement : goal.decreases-emit_statement
decreases-emit_statement l = 8 * stmt_count (typed_stmt_view l.stmt.now)

abbrev pub decreases-emit_statements : goal.decreases-emit_statements
decreases-emit_statements l = 8 * stmts_count (typed_stmts_view l.stmts.now) + 1

abbrev pub decreases-emit_skipped : goal.decreases-emit_skipped
decreases-emit_skipped l = 8 * stmts_count (typed_stmts_view l.stmts.now) + 2

abbrev pub decreases-emit_otherwise : goal.decreases-emit_otherwise
decreases-emit_otherwise l = 8 * stmts_count (typed_stmts_view l.no.now) + 3

abbrev pub decreases-emit_if : goal.decreases-emit_if
decreases-emit_if l = 8 * (stmts_count (typed_stmts_view l.yes.now) + stmts_count (typed_stmts_view l.no.now)) + 4

abbrev pub decreases-emit_while : goal.decreases-emit_while
decreases-emit_while l = 8 * stmts_count (typed_stmts_view l.body.now) + 4

abbrev pub invariant-emit_statements-loop-stmt : goal.invariant-emit_statements-loop-stmt
invariant-emit_statements-loop-stmt l = record {
  appended : l.code.items ++ map encoding (typed_stmts_code (setting_in l.here) (links_of l.addresses) (typed_stmts_view (drop l.stmt-index l.stmts)))
      ≡ l.initial.code.items ++ map encoding (typed_stmts_code (setting_in l.setting) (links_of l.addresses) (typed_stmts_view l.stmts));
  fit : FitRegisters (typed_stmts_view (drop l.stmt-index l.stmts));
  count : stmts_count (typed_stmts_view (drop l.stmt-index l.stmts)) ≤ stmts_count (typed_stmts_view l.stmts);
}
