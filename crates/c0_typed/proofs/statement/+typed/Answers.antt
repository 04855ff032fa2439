-- The trees of all statements are those of the list.
use Rattle.std.proofs.Common.{◌≤◌, length, map, arith}
use Rattle.c0_typed.specs.SeenEnv.{env_seen}
use Rattle.c0_typed.specs.View.{typed_stmt_view}
use Rattle.c0_typed.proofs.TreesOfLists.{all_typed}
use Rattle.c0_typed.proofs.statement.+typed.Goals as goal

pub typed_stmts-returns : goal.typed_stmts-returns
typed_stmts-returns t c =
    let past : length c.args.stmts.now ≤ c.loop-stmt.stmt-index = omega (arith, c.loop-stmt-test.false) in
    all_typed (env_seen c.args.function.now) c.args.stmts.now c.loop-stmt.stmt-index (map typed_stmt_view c.loop-stmt.all.items) past c.loop-stmt.invariant.trees
