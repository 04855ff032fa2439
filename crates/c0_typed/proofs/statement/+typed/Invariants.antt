-- The trees so far, and those of the statements that are left, are those of all.
use Rattle.std.proofs.Common.{◌≡◌, ◌++◌, map, drop}
use Rattle.c0_tree.specs.View.{stmt_view, stmts_view}
use Rattle.c0_typed.specs.SeenEnv.{env_seen}
use Rattle.c0_typed.specs.Sized.{AreSizedStmts}
use Rattle.c0_typed.specs.Typed.{typed_of_stmt}
use Rattle.c0_typed.specs.View.{typed_stmt_view}
use Rattle.c0_typed.proofs.statement.+typed.Given as goal

abbrev pub invariant-typed_stmts-loop-stmt : goal.invariant-typed_stmts-loop-stmt
invariant-typed_stmts-loop-stmt l = record {
  trees :
      map typed_stmt_view l.all.items ++ map (typed_of_stmt (env_seen l.function)) (map stmt_view (drop l.stmt-index l.stmts))
      ≡ map (typed_of_stmt (env_seen l.function)) (map stmt_view l.stmts);
  sized : AreSizedStmts (env_seen l.function).structs (stmts_view (drop l.stmt-index l.stmts));
}
