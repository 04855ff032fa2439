-- Statements are typed by the rules exactly where no fault stands in them.
use Rattle.std.proofs.Common.{◌≡◌, ℕ, ◌≤◌, ◌==◌, if◌then◌else◌, List, [], ◌∷◌, length, Option, Some, None, refl, sym, ap, ◌∙◌, subst}
use Rattle.c0_tree.specs.declared.tree.Span.{Span}
use Rattle.c0_tree.specs.Tree.{CName, CTy, CExpr, CStmt, assign, call, new, choice, loop, CStmts, done, next}
use Rattle.c0_meaning.specs.Ty.{Ty, bool, pointer, ty_of}
use Rattle.c0_meaning.specs.Env.{Env, Callee, callee_named}
use Rattle.c0_meaning.specs.Fault.{Fault, fault, WRONG_COUNT}
use Rattle.c0_meaning.specs.Judgement.{IsGiven}
use Rattle.c0_meaning.specs.Statement.{MAX_NEED, given_faults, tested_faults, left_type, left_faults, result_faults, callee_faults, parameter_types, args_faults, assign_need, call_need, new_need, assign_faults, call_faults, new_faults, stmt_faults, stmts_faults}
use Rattle.c0_meaning.specs.Rules.{IsLvalue, AreGiven, IsTyped, an_assignment, a_call, an_object, a_choice, a_loop, AreTyped, no_statement, a_statement, StatementsAreFaultless}
use Rattle.c0_meaning.proofs.TypedIsFaultless.{no_faults}
use Rattle.c0_meaning.proofs.FaultlessIsTyped.{nonempty, left_nil, right_nil}
use Rattle.c0_meaning.proofs.AskedTypes.{shallow_clean, clean_shallow, given_clean, clean_given, tested_is_faultless, left_clean, clean_left, args_clean, args_count, clean_args, result_clean, clean_result, count_clean, clean_count}

assign_clean : (env : Env) (s : Span) (p v : CExpr) (t : Ty) → IsLvalue env p t → IsGiven env v t → assign_need p v ≤ MAX_NEED → assign_faults env s p v ≡ []
assign_clean env s p v t l g d =
    let w = left_clean env p t l in
    no_faults _ _ w.clean (no_faults _ _ (ap (λ o. given_faults env o v) w.asks ∙ given_clean env v t g) (shallow_clean s _ d))

callee_clean : (env : Env) (s : Span) (f : CName) (want : Option Ty) (count : ℕ) (found : Option Callee) (c : Callee) → found ≡ Some c → length c.params ≡ count → want ≡ Some c.answer
    → callee_faults s f want count found ≡ []
callee_clean env s f want count found c e n w =
    ap (callee_faults s f want count) e ∙ no_faults _ _ (count_clean s (length c.params) count n) (result_clean s want c.answer w)

call_clean : (env : Env) (s cs : Span) (p : CExpr) (f : CName) (args : List CExpr) (c : Callee) → callee_named env f.text ≡ Some c → IsLvalue env p c.answer → AreGiven env args c.params
    → call_need p args ≤ MAX_NEED → call_faults env s p cs f args ≡ []
call_clean env s cs p f args c e l g d =
    let w = left_clean env p c.answer l in
    no_faults _ _ w.clean (no_faults _ _ (callee_clean env cs f (left_type env p) (length args) (callee_named env f.text) c e (args_count env args c.params g) w.asks)
    (no_faults _ _ (ap (λ found. args_faults env (parameter_types found) args) e ∙ args_clean env args c.params g) (shallow_clean s _ d)))

new_clean : (declared : CTy → Span → List Fault) (env : Env) (s : Span) (p : CExpr) (t : CTy) (ts : Span) → IsLvalue env p (pointer (ty_of t)) → declared t ts ≡ [] → new_need p ≤ MAX_NEED
    → new_faults declared env s p t ts ≡ []
new_clean declared env s p t ts l k d =
    let w = left_clean env p (pointer (ty_of t)) l in
    no_faults _ _ w.clean (no_faults _ _ k (no_faults _ _ (result_clean ts (left_type env p) (pointer (ty_of t)) w.asks) (shallow_clean s _ d)))

mutual
  stmt_clean : (declared : CTy → Span → List Fault) (env : Env) (s : CStmt) → IsTyped declared env s → stmt_faults declared env s ≡ []
  stmt_clean declared env _ (an_assignment l g d) = assign_clean env _ _ _ _ l g d
  stmt_clean declared env _ (a_call {f = f} e l g d) = call_clean env _ _ _ f _ _ e l g d
  stmt_clean declared env _ (an_object l k d) = new_clean declared env _ _ _ _ l k d
  stmt_clean declared env _ (a_choice t a b) = no_faults _ _ ((tested_is_faultless env bool _).0 t) (no_faults _ _ (stmts_clean declared env _ a) (stmts_clean declared env _ b))
  stmt_clean declared env _ (a_loop t b) = no_faults _ _ ((tested_is_faultless env bool _).0 t) (stmts_clean declared env _ b)

  stmts_clean : (declared : CTy → Span → List Fault) (env : Env) (ss : CStmts) → AreTyped declared env ss → stmts_faults declared env ss ≡ []
  stmts_clean declared env _ no_statement = refl
  stmts_clean declared env _ (a_statement s rest) = no_faults _ _ (stmt_clean declared env _ s) (stmts_clean declared env _ rest)

clean_assign : (declared : CTy → Span → List Fault) (env : Env) (s : Span) (p v : CExpr) → assign_faults env s p v ≡ [] → IsTyped declared env (assign s p v)
clean_assign declared env s p v h =
    let l = clean_left env p (left_nil (left_faults env p) _ h) in
    let r = right_nil (left_faults env p) _ h in
    let w = left_clean env p l.0 l.1 in
    let g = ap (λ o. given_faults env o v) (sym w.asks) ∙ left_nil (given_faults env (left_type env p) v) _ r in
    an_assignment l.1 (clean_given env v l.0 g) (clean_shallow s _ (right_nil (given_faults env (left_type env p) v) _ r))

clean_callee : (declared : CTy → Span → List Fault) (env : Env) (s cs : Span) (p : CExpr) (f : CName) (args : List CExpr) (t : Ty) → IsLvalue env p t → left_type env p ≡ Some t
    → (found : Option Callee) → callee_named env f.text ≡ found
    → callee_faults cs f (left_type env p) (length args) found ≡ [] → args_faults env (parameter_types found) args ≡ [] → call_need p args ≤ MAX_NEED → IsTyped declared env (call s p cs f args)
clean_callee declared env s cs p f args t l asks None e h k d = nonempty h
clean_callee declared env s cs p f args t l asks (Some c) e h k d =
    let n = clean_count cs (length c.params) (length args) (left_nil (if length c.params == length args then [] else fault WRONG_COUNT cs ∷ []) _ h) in
    let same = clean_result cs (left_type env p) t c.answer asks (right_nil (if length c.params == length args then [] else fault WRONG_COUNT cs ∷ []) _ h) in
    a_call e (subst (IsLvalue env p) same l) (clean_args env args c.params n k) d

clean_call : (declared : CTy → Span → List Fault) (env : Env) (s cs : Span) (p : CExpr) (f : CName) (args : List CExpr) → call_faults env s p cs f args ≡ [] → IsTyped declared env (call s p cs f args)
clean_call declared env s cs p f args h =
    let l = clean_left env p (left_nil (left_faults env p) _ h) in
    let r = right_nil (left_faults env p) _ h in
    let w = left_clean env p l.0 l.1 in
    let found = callee_named env f.text in
    let q = right_nil (callee_faults cs f (left_type env p) (length args) found) _ r in
    clean_callee declared env s cs p f args l.0 l.1 w.asks found refl (left_nil (callee_faults cs f (left_type env p) (length args) found) _ r)
    (left_nil (args_faults env (parameter_types found) args) _ q) (clean_shallow s _ (right_nil (args_faults env (parameter_types found) args) _ q))

clean_new : (declared : CTy → Span → List Fault) (env : Env) (s : Span) (p : CExpr) (t : CTy) (ts : Span) → new_faults declared env s p t ts ≡ [] → IsTyped declared env (new s p t ts)
clean_new declared env s p t ts h =
    let l = clean_left env p (left_nil (left_faults env p) _ h) in
    let r = right_nil (left_faults env p) _ h in
    let w = left_clean env p l.0 l.1 in
    let q = right_nil (declared t ts) _ r in
    let same = clean_result ts (left_type env p) l.0 (pointer (ty_of t)) w.asks (left_nil (result_faults ts (left_type env p) (pointer (ty_of t))) _ q) in
    an_object (subst (IsLvalue env p) same l.1) (left_nil (declared t ts) _ r) (clean_shallow s _ (right_nil (result_faults ts (left_type env p) (pointer (ty_of t))) _ q))

mutual
  clean_stmt : (declared : CTy → Span → List Fault) (env : Env) (s : CStmt) → stmt_faults declared env s ≡ [] → IsTyped declared env s
  clean_stmt declared env (assign s p v) h = clean_assign declared env s p v h
  clean_stmt declared env (call s p cs f args) h = clean_call declared env s cs p f args h
  clean_stmt declared env (new s p t ts) h = clean_new declared env s p t ts h
  clean_stmt declared env (choice s t a b) h =
      let r = right_nil (tested_faults env bool t) _ h in
      a_choice ((tested_is_faultless env bool t).1 (left_nil (tested_faults env bool t) _ h)) (clean_stmts declared env a (left_nil (stmts_faults declared env a) _ r))
      (clean_stmts declared env b (right_nil (stmts_faults declared env a) _ r))
  clean_stmt declared env (loop s t b) h =
      a_loop ((tested_is_faultless env bool t).1 (left_nil (tested_faults env bool t) _ h)) (clean_stmts declared env b (right_nil (tested_faults env bool t) _ h))

  clean_stmts : (declared : CTy → Span → List Fault) (env : Env) (ss : CStmts) → stmts_faults declared env ss ≡ [] → AreTyped declared env ss
  clean_stmts declared env done h = no_statement
  clean_stmts declared env (next s rest) h =
      a_statement (clean_stmt declared env s (left_nil (stmt_faults declared env s) _ h)) (clean_stmts declared env rest (right_nil (stmt_faults declared env s) _ h))

pub statements_are_faultless : StatementsAreFaultless
statements_are_faultless declared env ss = (stmts_clean declared env ss, clean_stmts declared env ss)
