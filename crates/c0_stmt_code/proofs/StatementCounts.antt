-- How many statements there are: walks over typed statements end by it.
use Rattle.std.specs.Prelude.{ℕ, ◌+◌}
use Rattle.c0_typed.specs.Tree.{TStmt, assign, call, new, choice, loop, TStmts, done, next}

-- inside a statement; and of statements with all that is inside them
abbrev mutual
  pub stmt_count : TStmt → ℕ
  stmt_count (assign p v) = 0
  stmt_count (call k n args p) = 0
  stmt_count (new w p) = 0
  stmt_count (choice t a b) = stmts_count a + stmts_count b + 1
  stmt_count (loop t b) = stmts_count b + 1

  pub stmts_count : TStmts → ℕ
  stmts_count done = 0
  stmts_count (next s rest) = stmt_count s + stmts_count rest + 1
