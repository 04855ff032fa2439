-- What is live before statements; and what isn't known any more behind assignments, calls and `new`.
use Rattle.std.specs.Prelude.{◌≡◌, ℕ, Bool, true, false, List, None, IsTrue}
use Rattle.c0_tree.specs.declared.tree.Kind.{Kind}
use Rattle.c0_tree.specs.declared.tree.Span.{Span}
use Rattle.c0_tree.specs.Tree.{CName, CTy, CExpr, assign, call, new, choice, loop, CStmts}
use Rattle.c0_typed.specs.Tree.{TExpr, local}
use Rattle.c0_typed.specs.Tree as typed
use Rattle.c0_expr_code.specs.declared.facts.Facts.{Facts}
use Rattle.c0_expr_code.specs.Facts.{holds_param, is_not_null, register_holding, variable_in}
use Rattle.c0_expr_code.specs.Reads.{reads, reads_to_find}
use Rattle.c0_stmt_code.specs.Behind.{facts_behind}
use Rattle.c0_stmt_code.specs.Live.{any_reads, is_variable, is_live, are_live}

-- A law: what a statement may read is live before it, whatever is live behind it; and what is live behind it is so before it, unless it is assigned.
-- An `if` may read what its branches may, and a loop what its body may, and it may have no turn.
pub record ReadIsLive : Type 0 where
  pub value : (s : Span) (p v : CExpr) (n : ℕ) (behind : Bool) → IsTrue (reads v n) → IsTrue (is_live (assign s p v) n behind)
  pub place : (s : Span) (p v : CExpr) (n : ℕ) (behind : Bool) → IsTrue (reads_to_find p n) → IsTrue (is_live (assign s p v) n behind)
  pub kept : (s : Span) (p v : CExpr) (n : ℕ) → is_variable p n ≡ false → IsTrue (is_live (assign s p v) n true)
  pub arguments : (s : Span) (p : CExpr) (cs : Span) (f : CName) (args : List CExpr) (n : ℕ) (behind : Bool) → IsTrue (any_reads args n)
      → IsTrue (is_live (call s p cs f args) n behind)
  pub answered : (s : Span) (p : CExpr) (cs : Span) (f : CName) (args : List CExpr) (n : ℕ) (behind : Bool) → IsTrue (reads_to_find p n)
      → IsTrue (is_live (call s p cs f args) n behind)
  pub kept_by_call : (s : Span) (p : CExpr) (cs : Span) (f : CName) (args : List CExpr) (n : ℕ) → is_variable p n ≡ false
      → IsTrue (is_live (call s p cs f args) n true)
  pub made : (s : Span) (p : CExpr) (t : CTy) (ts : Span) (n : ℕ) (behind : Bool) → IsTrue (reads_to_find p n) → IsTrue (is_live (new s p t ts) n behind)
  pub kept_by_new : (s : Span) (p : CExpr) (t : CTy) (ts : Span) (n : ℕ) → is_variable p n ≡ false → IsTrue (is_live (new s p t ts) n true)
  pub test : (s : Span) (t : CExpr) (a b : CStmts) (n : ℕ) (behind : Bool) → IsTrue (reads t n) → IsTrue (is_live (choice s t a b) n behind)
  pub yes : (s : Span) (t : CExpr) (a b : CStmts) (n : ℕ) (behind : Bool) → IsTrue (are_live a n behind) → IsTrue (is_live (choice s t a b) n behind)
  pub no : (s : Span) (t : CExpr) (a b : CStmts) (n : ℕ) (behind : Bool) → IsTrue (are_live b n behind) → IsTrue (is_live (choice s t a b) n behind)
  pub turn : (s : Span) (t : CExpr) (b : CStmts) (n : ℕ) (behind : Bool) → IsTrue (reads t n) → IsTrue (is_live (loop s t b) n behind)
  pub body : (s : Span) (t : CExpr) (b : CStmts) (n : ℕ) (behind : Bool) → IsTrue (are_live b n false) → IsTrue (is_live (loop s t b) n behind)
  pub kept_by_loop : (s : Span) (t : CExpr) (b : CStmts) (n : ℕ) → IsTrue (is_live (loop s t b) n true)

-- A law: behind a call no parameter is known to stand in its register, and no variable in that of the answer where this went to none; and a variable
-- that was assigned may be null, and stands in no register, unless it was a call's answer.
pub record FactsEnd : Type 0 where
  pub called : (r : Bool) (k : Kind) (i : ℕ) (args : List TExpr) (p : TExpr) (f : Facts) (n : ℕ)
      → holds_param (facts_behind r (typed.call k i args p) f) n ≡ false
  pub elsewhere : (r : Bool) (k : Kind) (i : ℕ) (args : List TExpr) (p : TExpr) (f : Facts) → variable_in p ≡ None
      → (facts_behind r (typed.call k i args p) f).answer ≡ None
  pub assigned : (r : Bool) (n w : ℕ) (v : TExpr) (f : Facts) → is_not_null (facts_behind r (typed.assign (local n w) v) f) n ≡ false
  pub answered : (r : Bool) (k : Kind) (i : ℕ) (args : List TExpr) (n w : ℕ) (f : Facts)
      → is_not_null (facts_behind r (typed.call k i args (local n w)) f) n ≡ false
  pub made : (r : Bool) (words n w : ℕ) (f : Facts) → is_not_null (facts_behind r (typed.new words (local n w)) f) n ≡ false
  pub moved : (r : Bool) (n w : ℕ) (v : TExpr) (f : Facts) → register_holding (facts_behind r (typed.assign (local n w) v) f) n ≡ None
  pub moved_by_new : (r : Bool) (words n w : ℕ) (f : Facts) → register_holding (facts_behind r (typed.new words (local n w)) f) n ≡ None
