-- Which locals of a function may be read before they are assigned: the others need not be 0 at its begin.
use Rattle.std.specs.Prelude.{ℕ, Bool, false, not, ◌&&◌, ◌||◌, nat_eq, List, [], ◌∷◌, map}
use Rattle.std.specs.List.{list_all}
use Rattle.c0_tree.specs.Tree.{CExpr, var, CStmt, assign, call, new, choice, loop, CStmts, done, next, CDecl}
use Rattle.c0_meaning.specs.Env.{typed_of}
use Rattle.c0_meaning.specs.Numbered.{is_in_frame}
use Rattle.c0_meaning.specs.Ty.{is_scalar}
use Rattle.c0_meaning.specs.TypedState.{types_of}
use Rattle.c0_expr_code.specs.Reads.{reads, reads_to_find}

-- whether one of these expressions reads a variable
abbrev pub any_reads : List CExpr → ℕ → Bool
any_reads [] n = false
any_reads (e ∷ es) n = reads e n || any_reads es n

-- whether a place is the variable of a number itself
abbrev pub is_variable : CExpr → ℕ → Bool
is_variable (var x) n = is_in_frame x.kind && nat_eq x.number n
is_variable e n = false

-- whether a variable is live where a value goes to a place next, and it is live behind that or not
abbrev pub live_at_place : CExpr → (n : ℕ) → (behind : Bool) → Bool
live_at_place p n behind = reads_to_find p n || (not (is_variable p n) && behind)

-- whether a variable is live before a statement, or before statements: it may be read there or, where it is live behind them, behind them
abbrev mutual
  pub is_live : CStmt → (n : ℕ) → (behind : Bool) → Bool
  is_live (assign s p v) n behind = reads v n || live_at_place p n behind
  is_live (call s p cs f args) n behind = any_reads args n || live_at_place p n behind
  is_live (new s p t ts) n behind = live_at_place p n behind
  is_live (choice s t a b) n behind = reads t n || (are_live a n behind || are_live b n behind)
  is_live (loop s t b) n behind = reads t n || (behind || are_live b n false)

  pub are_live : CStmts → (n : ℕ) → (behind : Bool) → Bool
  are_live done n behind = behind
  are_live (next s rest) n behind = is_live s n (are_live rest n behind)

-- whether all locals are scalars, of a word each
abbrev pub are_scalar : List CDecl → Bool
are_scalar locals = list_all is_scalar (types_of (map typed_of locals))

-- Whether the local of a number is 0 behind the begin of a function. Where all locals are scalars, those are that are live there; else all are.
abbrev pub is_cleared : List CDecl → CStmts → CExpr → ℕ → Bool
is_cleared locals stmts answer n = not (are_scalar locals) || are_live stmts n (reads answer n)
