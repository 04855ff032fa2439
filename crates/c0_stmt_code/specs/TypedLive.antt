-- Which locals of a typed function may be read before they are assigned: the others need not be 0 at its begin.
use Rattle.std.specs.Prelude.{ℕ, Bool, false, not, ◌&&◌, ◌||◌, nat_eq, List, [], ◌∷◌}
use Rattle.std.specs.List.{list_all}
use Rattle.c0_typed.specs.declared.tree.LocalType.{LocalType}
use Rattle.c0_typed.specs.Tree.{TExpr, global, local, part, element, target, constant, address, negative, negation, plain, quotient}
use Rattle.c0_typed.specs.Tree.{remainder, both, either, TStmt, assign, call, new, choice, loop, TStmts, done, next}

-- whether the parameter or local of a number stands in an expression
abbrev pub typed_reads : TExpr → ℕ → Bool
typed_reads (global k) n = false
typed_reads (local i w) n = nat_eq i n
typed_reads (part p k) n = typed_reads p n
typed_reads (element p i x) n = typed_reads p n || typed_reads i n
typed_reads (target p) n = typed_reads p n
typed_reads (constant k) n = false
typed_reads (address p) n = typed_reads p n
typed_reads (negative e) n = typed_reads e n
typed_reads (negation e) n = typed_reads e n
typed_reads (plain o a b) n = typed_reads a n || typed_reads b n
typed_reads (quotient a b) n = typed_reads a n || typed_reads b n
typed_reads (remainder a b) n = typed_reads a n || typed_reads b n
typed_reads (both a b) n = typed_reads a n || typed_reads b n
typed_reads (either a b) n = typed_reads a n || typed_reads b n

-- whether one of these expressions reads it
abbrev pub typed_any_reads : List TExpr → ℕ → Bool
typed_any_reads [] n = false
typed_any_reads (e ∷ es) n = typed_reads e n || typed_any_reads es n

-- whether it is read where the place is found that an expression is: a variable is found without being read
abbrev pub typed_reads_to_find : TExpr → ℕ → Bool
typed_reads_to_find (local i w) n = false
typed_reads_to_find e n = typed_reads e n

-- whether a place is the variable of a number itself
abbrev pub is_that_local : TExpr → ℕ → Bool
is_that_local (local i w) n = nat_eq i n
is_that_local e n = false

-- whether a variable is live where a value goes to a place next, and it is live behind that or not
abbrev pub typed_live_at_place : TExpr → (n : ℕ) → (behind : Bool) → Bool
typed_live_at_place p n behind = typed_reads_to_find p n || (not (is_that_local p n) && behind)

-- whether a variable is live before a statement, or before statements: it may be read there or, where it is live behind them, behind them
abbrev mutual
  pub typed_is_live : TStmt → (n : ℕ) → (behind : Bool) → Bool
  typed_is_live (assign p v) n behind = typed_reads v n || typed_live_at_place p n behind
  typed_is_live (call k i args p) n behind = typed_any_reads args n || typed_live_at_place p n behind
  typed_is_live (new w p) n behind = typed_live_at_place p n behind
  typed_is_live (choice t a b) n behind = typed_reads t n || (typed_are_live a n behind || typed_are_live b n behind)
  typed_is_live (loop t b) n behind = typed_reads t n || (behind || typed_are_live b n false)

  pub typed_are_live : TStmts → (n : ℕ) → (behind : Bool) → Bool
  typed_are_live done n behind = behind
  typed_are_live (next s rest) n behind = typed_is_live s n (typed_are_live rest n behind)

-- whether all locals are scalars, of a word each
abbrev pub are_scalars : List LocalType → Bool
are_scalars locals = list_all (λ x. x.scalar) locals

-- Whether the local of a number is 0 behind the begin of a function. Where all locals are scalars, those are that are live there; else all are.
abbrev pub typed_cleared : List LocalType → TStmts → TExpr → ℕ → Bool
typed_cleared locals stmts answer n = not (are_scalars locals) || typed_are_live stmts n (typed_reads answer n)
