-- The statements so far are resolved, and the faults of the others are still to be met; the nodes of the statement, a list of them a
-- step after.
use Rattle.std.proofs.Common.{◌≡◌, ◌+◌, ◌*◌, map}
use Rattle.c0_tree.specs.Size.{stmt_nodes, stmts_nodes}
use Rattle.c0_tree.specs.View.{stmt_view, stmts_view, stmts_of}
use Rattle.c0_meaning.specs.Fault.{kept_all}
use Rattle.c0_name_check.specs.Met.{met_view}
use Rattle.c0_body_check.specs.Scope.{env_view}
use Rattle.c0_body_check.specs.Stmts.{faults_of_stmts, resolved_of_stmt}
use Rattle.c0_body_check.proofs.InPlace.{done, rest}
use Rattle.c0_body_check.proofs.stmts.+statement.Given as goal

abbrev pub decreases-check_stmt : goal.decreases-check_stmt
decreases-check_stmt l = 3 * stmt_nodes (stmt_view l.stmt.now)

abbrev pub decreases-check_stmts : goal.decreases-check_stmts
decreases-check_stmts l = 3 * stmts_nodes (stmts_view l.stmts.now) + 1

abbrev pub decreases-check_choice : goal.decreases-check_choice
decreases-check_choice l = 3 * (stmts_nodes (stmts_view l.yes.now.items) + stmts_nodes (stmts_view l.no.now.items)) + 2

abbrev pub decreases-check_loop : goal.decreases-check_loop
decreases-check_loop l = 3 * stmts_nodes (stmts_view l.body.now.items) + 2

abbrev pub invariant-check_stmts-loop-stmt : goal.invariant-check_stmts-loop-stmt
invariant-check_stmts-loop-stmt l =
    (map stmt_view l.stmts ≡ done (resolved_of_stmt (env_view l.scope)) l.stmt-index (map stmt_view l.initial.stmts))
    × (kept_all (met_view l.least) (faults_of_stmts (env_view l.scope) (stmts_of (rest l.stmt-index (map stmt_view l.initial.stmts))))
    ≡ kept_all (met_view l.initial.least) (faults_of_stmts (env_view l.scope) (stmts_view l.initial.stmts)))
