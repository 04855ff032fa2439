-- Which primitives a unit calls, read off its code.
use Rattle.std.specs.Prelude.{ℕ, Bool, true, ◌&&◌}
use Rattle.std.specs.List.{list_all}
use Rattle.c0_tree.specs.declared.tree.Kind.{Kind}
use Rattle.c0_tree.specs.declared.tree.Kind.TheVariants.{Primitive}
use Rattle.c0_tree.specs.Tree.{CStmt, assign, call, new, choice, loop, CStmts, done, next, CBody, code, asm, CUnit}

-- whether a call, of a function or a primitive of this number, is none of a primitive that may not be called
abbrev pub call_may : (ℕ → Bool) → Kind → ℕ → Bool
call_may may Primitive n = may n
call_may may other n = true

-- whether a statement calls no other primitives, nor one inside it
abbrev mutual
  pub statement_may : (ℕ → Bool) → CStmt → Bool
  statement_may may (assign span place value) = true
  statement_may may (call span place call_span function args) = call_may may function.kind function.number
  statement_may may (new span place ty ty_span) = true
  statement_may may (choice span test on_true on_false) = block_may may on_true && block_may may on_false
  statement_may may (loop span test body) = block_may may body

  pub block_may : (ℕ → Bool) → CStmts → Bool
  block_may may done = true
  block_may may (next statement rest) = statement_may may statement && block_may may rest

abbrev pub body_may : (ℕ → Bool) → CBody → Bool
body_may may (code locals statements answer) = block_may may statements
body_may may (asm text span words) = true

-- A UNIT CALLS THESE PRIMITIVES ALONE: each of its functions does
abbrev pub calls_only : (ℕ → Bool) → CUnit → Bool
calls_only may u = list_all (λ f. body_may may f.body) u.functions
