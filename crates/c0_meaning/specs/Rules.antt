-- The rules of statements and of the returned expression. They know no fault, no order and no traversal.
--
-- `declared` gives the faults of the type behind `new`, by the type and its span.
use Rattle.std.specs.Prelude.{◌≡◌, ◌≤◌, ◌↔◌, List, [], ◌∷◌, Some, IsTrue}
use Rattle.c0_tree.specs.declared.tree.Span.{Span}
use Rattle.c0_tree.specs.Tree.{CName, CTy, CExpr, CStmt, assign, call, new, choice, loop, CStmts, done, next}
use Rattle.c0_tree.specs.Size.{need}
use Rattle.c0_meaning.specs.Ty.{Ty, bool, pointer, ty_of, is_scalar}
use Rattle.c0_meaning.specs.Env.{Env, Callee, callee_named}
use Rattle.c0_meaning.specs.Fault.{Fault}
use Rattle.c0_meaning.specs.Expression.{is_lvalue}
use Rattle.c0_meaning.specs.Judgement.{HasType, IsGiven}
use Rattle.c0_meaning.specs.Statement.{MAX_NEED, assign_need, call_need, new_need, tested_faults, stmts_faults}

-- a left side for values of a type: a place of that scalar type
pub record IsLvalue (env : Env) (p : CExpr) (t : Ty) : Type 0 where
  pub place : IsTrue (is_lvalue p)
  pub scalar : IsTrue (is_scalar t)
  pub typed : HasType env p t

-- arguments for parameters of these types: as many, and each may stand where its type is asked
pub data AreGiven (env : Env) : List CExpr → List Ty → Type 0 where
  none : AreGiven env [] []
  more : {e : CExpr} {es : List CExpr} {t : Ty} {ts : List Ty} → IsGiven env e t → AreGiven env es ts → AreGiven env (e ∷ es) (t ∷ ts)

-- a condition, or a returned expression, of a type
pub record IsTested (env : Env) (e : CExpr) (t : Ty) : Type 0 where
  pub value : IsGiven env e t
  pub shallow : need e ≤ MAX_NEED

-- a statement is typed, and so is a list of them
mutual
  pub data IsTyped (declared : CTy → Span → List Fault) (env : Env) : CStmt → Type 0 where
    an_assignment : {s : Span} {p v : CExpr} {t : Ty}
        → IsLvalue env p t → IsGiven env v t → assign_need p v ≤ MAX_NEED → IsTyped declared env (assign s p v)
    a_call : {s cs : Span} {p : CExpr} {f : CName} {args : List CExpr} {c : Callee}
        → callee_named env f.text ≡ Some c → IsLvalue env p c.answer → AreGiven env args c.params → call_need p args ≤ MAX_NEED
        → IsTyped declared env (call s p cs f args)
    an_object : {s ts : Span} {p : CExpr} {t : CTy}
        → IsLvalue env p (pointer (ty_of t)) → declared t ts ≡ [] → new_need p ≤ MAX_NEED → IsTyped declared env (new s p t ts)
    a_choice : {s : Span} {t : CExpr} {a b : CStmts}
        → IsTested env t bool → AreTyped declared env a → AreTyped declared env b → IsTyped declared env (choice s t a b)
    a_loop : {s : Span} {t : CExpr} {b : CStmts} → IsTested env t bool → AreTyped declared env b → IsTyped declared env (loop s t b)

  pub data AreTyped (declared : CTy → Span → List Fault) (env : Env) : CStmts → Type 0 where
    no_statement : AreTyped declared env done
    a_statement : {s : CStmt} {rest : CStmts} → IsTyped declared env s → AreTyped declared env rest → AreTyped declared env (next s rest)

-- a law: a condition or returned expression is of a type exactly where no fault stands in it
abbrev pub TestedIsFaultless : Type 0
TestedIsFaultless = (env : Env) (t : Ty) (e : CExpr) → IsTested env e t ↔ (tested_faults env t e ≡ [])

-- a law: statements are typed exactly where no fault stands in them
abbrev pub StatementsAreFaultless : Type 0
StatementsAreFaultless =
    (declared : CTy → Span → List Fault) (env : Env) (ss : CStmts) → AreTyped declared env ss ↔ (stmts_faults declared env ss ≡ [])
