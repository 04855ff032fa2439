-- Statements one after the other, and the statements in a statement.
use Rattle.std.proofs.Common.{rules, ◌≡◌, ◌++◌, length, get_or, map, arith, sym, ap, ◌∙◌}
use Rattle.c0_tree.specs.declared.tree.Stmt as rust
use Rattle.c0_tree.specs.declared.tree.Stmt.TheFolds as folds
use Rattle.std.proofs.Common.{Vec, Global}
use Rattle.c0_tree.specs.declared.tree.Span.{Span}
use Rattle.c0_tree.specs.declared.tree.Expr.{Expr}
use Rattle.c0_tree.specs.declared.tree.Stmt.{Stmt}
use Rattle.c0_tree.specs.Tree.{CExpr, CStmt, choice, loop, CStmts}
use Rattle.c0_meaning.specs.Env.{Env}
use Rattle.c0_tree.specs.View.{expr_view, stmt_view, stmts_view, stmts_of}
use Rattle.c0_meaning.specs.Ty.{bool}
use Rattle.c0_meaning.specs.Fault.{kept_all}
use Rattle.c0_meaning.specs.Expression.{resolved}
use Rattle.c0_meaning.specs.Statement.{tested_faults}
use Rattle.c0_name_check.specs.Met.{met_view}
use Rattle.c0_body_check.specs.Scope.{env_view}
use Rattle.c0_body_check.specs.Stmts.{choice_faults, loop_faults, faults_of_stmt, faults_of_stmts, resolved_of_stmt, resolved_of_stmts}
use Rattle.c0_body_check.proofs.InPlace.{in_place_at, in_place_step, in_place_end}
use Rattle.c0_name_check.proofs.FaultsMet.{two_met}
use Rattle.c0_body_check.proofs.StatementsInPlace.{stmt_falls, lent_stmts, resolved-stmts_of, stmts_step}
use Rattle.c0_body_check.proofs.stmts.+statement.Goals as goal

view_if : (s : _) (t : _) (a b : _) → stmt_view (rust.If s t a b) ≡ choice s (expr_view t) (stmts_view a.items) (stmts_view b.items)
view_if s t a b = search (rules, folds.the_lemmas)

view_while : (s : _) (t : _) (b : _) → stmt_view (rust.While s t b) ≡ loop s (expr_view t) (stmts_view b.items)
view_while s t b = search (rules, folds.the_lemmas)

choice-resolved : (env : Env) (s s' : Span) (t : Expr) (a b : Vec Stmt Global) (x : CStmt) (t' : CExpr) (a' b' : CStmts) → x ≡ choice s' t' a' b' → s ≡ s'
    → expr_view t ≡ resolved env t' → stmts_view a.items ≡ resolved_of_stmts env a' → stmts_view b.items ≡ resolved_of_stmts env b'
    → stmt_view (rust.If s t a b) ≡ resolved_of_stmt env x
choice-resolved env s s' t a b x t' a' b' same at test first second =
    view_if s t a b
    ∙ (ap (λ z. choice z (expr_view t) (stmts_view a.items) (stmts_view b.items)) at
    ∙ (ap (λ z. choice s' z (stmts_view a.items) (stmts_view b.items)) test
    ∙ (ap (λ z. choice s' (resolved env t') z (stmts_view b.items)) first
    ∙ (ap (choice s' (resolved env t') (resolved_of_stmts env a')) second
    ∙ ap (resolved_of_stmt env) (sym same)))))

loop-resolved : (env : Env) (s s' : Span) (t : Expr) (b : Vec Stmt Global) (x : CStmt) (t' : CExpr) (b' : CStmts) → x ≡ loop s' t' b' → s ≡ s'
    → expr_view t ≡ resolved env t' → stmts_view b.items ≡ resolved_of_stmts env b' → stmt_view (rust.While s t b) ≡ resolved_of_stmt env x
loop-resolved env s s' t b x t' b' same at test body =
    view_while s t b
    ∙ (ap (λ z. loop z (expr_view t) (stmts_view b.items)) at
    ∙ (ap (λ z. loop s' z (stmts_view b.items)) test
    ∙ (ap (loop s' (resolved env t')) body
    ∙ ap (resolved_of_stmt env) (sym same))))

pub check_stmt-returns-in-If : goal.check_stmt-returns-in-If
check_stmt-returns-in-If t c =
    let env = env_view c.args.scope.now in
    let met : met_view c.check_choice.new.least ≡ kept_all (met_view c.args.least.now) (choice_faults env (expr_view c.in-If.test) (stmts_view c.in-If.yes.items) (stmts_view c.in-If.no.items)) = search rules in
    let test : expr_view c.check_choice.new.test ≡ resolved env (expr_view c.in-If.test) = search rules in
    let yes : stmts_view c.check_choice.new.yes.items ≡ resolved_of_stmts env (stmts_view c.in-If.yes.items) = search rules in
    let no : stmts_view c.check_choice.new.no.items ≡ resolved_of_stmts env (stmts_view c.in-If.no.items) = search rules in
    let same = ap stmt_view c.in-If.is ∙ view_if c.in-If._span c.in-If.test c.in-If.yes c.in-If.no in (
      met ∙ ap (λ z. kept_all (met_view c.args.least.now) (faults_of_stmt env z)) (sym same),
      choice-resolved env _ c.in-If._span c.check_choice.new.test c.check_choice.new.yes c.check_choice.new.no _ (expr_view c.in-If.test) (stmts_view c.in-If.yes.items) (stmts_view c.in-If.no.items)
          same (search rules) test yes no,
    )

pub check_stmt-returns-in-While : goal.check_stmt-returns-in-While
check_stmt-returns-in-While t c =
    let env = env_view c.args.scope.now in
    let met : met_view c.check_loop.new.least ≡ kept_all (met_view c.args.least.now) (loop_faults env (expr_view c.in-While.test) (stmts_view c.in-While.body.items)) = search rules in
    let test : expr_view c.check_loop.new.test ≡ resolved env (expr_view c.in-While.test) = search rules in
    let body : stmts_view c.check_loop.new.body.items ≡ resolved_of_stmts env (stmts_view c.in-While.body.items) = search rules in
    let same = ap stmt_view c.in-While.is ∙ view_while c.in-While._span c.in-While.test c.in-While.body in (
      met ∙ ap (λ z. kept_all (met_view c.args.least.now) (faults_of_stmt env z)) (sym same),
      loop-resolved env _ c.in-While._span c.check_loop.new.test c.check_loop.new.body _ (expr_view c.in-While.test) (stmts_view c.in-While.body.items)
          same (search rules) test body,
    )

pub check_choice-returns-clause-met : goal.check_choice-returns-clause-met
check_choice-returns-clause-met t c =
    let env = env_view c.args.scope.now in
    let a = lent_stmts env _ _ _ _ _ c.as_mut_slice.ensures.value c.check_stmts.ensures in
    let b = lent_stmts env _ _ _ _ _ c.as_mut_slice-2.ensures.value c.check_stmts-2.ensures in
    two_met (met_view c.args.least.now) (met_view c.check_condition.new.least) _ (tested_faults env bool (expr_view c.args.test.now))
    (faults_of_stmts env (stmts_view c.args.yes.now.items) ++ faults_of_stmts env (stmts_view c.args.no.now.items)) c.check_condition.ensures.met
    (two_met _ (met_view c.check_stmts.new.least) _ (faults_of_stmts env (stmts_view c.args.yes.now.items)) (faults_of_stmts env (stmts_view c.args.no.now.items)) a.0 b.0)

pub check_loop-returns-clause-met : goal.check_loop-returns-clause-met
check_loop-returns-clause-met t c =
    let env = env_view c.args.scope.now in
    let b = lent_stmts env _ _ _ _ _ c.as_mut_slice.ensures.value c.check_stmts.ensures in
    two_met (met_view c.args.least.now) (met_view c.check_condition.new.least) _ (tested_faults env bool (expr_view c.args.test.now))
    (faults_of_stmts env (stmts_view c.args.body.now.items)) c.check_condition.ensures.met b.0

pub check_stmts-check_stmt-requires : goal.check_stmts-check_stmt-requires
check_stmts-check_stmt-requires t c =
    let env = env_view c.args.scope.now in
    let stmt = get_or c.loop-stmt.stmts c.loop-stmt.stmt-index c.stmt-item.result in
    let at = in_place_at stmt_view (resolved_of_stmt env) c.args.stmts.now c.loop-stmt.stmts c.loop-stmt.stmt-index stmt
    c.loop-stmt.invariant.0 c.loop-stmt-test.true (ap (get_or c.loop-stmt.stmts c.loop-stmt.stmt-index) c.stmt-item.is) in
    (stmt_falls (map stmt_view c.args.stmts.now) c.loop-stmt.stmt-index (stmt_view stmt) t c.decreases at.0 at.1, c.requires)

pub check_stmts-loop-stmt-preserved : goal.check_stmts-loop-stmt-preserved
check_stmts-loop-stmt-preserved t c =
    let env = env_view c.args.scope.now in
    let stmt = get_or c.loop-stmt.stmts c.loop-stmt.stmt-index c.stmt-item.result in
    let s = in_place_step stmt_view (resolved_of_stmt env) c.args.stmts.now c.loop-stmt.stmts c.loop-stmt.stmt-index stmt c.check_stmt.new.stmt
    c.loop-stmt.invariant.0 c.loop-stmt-test.true (ap (get_or c.loop-stmt.stmts c.loop-stmt.stmt-index) c.stmt-item.is) c.check_stmt.ensures.1 in
    (s.changed, stmts_step env (map stmt_view c.args.stmts.now) c.loop-stmt.stmt-index (stmt_view stmt) _ _ _ s.within s.was c.check_stmt.ensures.0 c.loop-stmt.invariant.1)

pub check_stmts-returns : goal.check_stmts-returns
check_stmts-returns t c =
    let env = env_view c.args.scope.now in
    let last : c.loop-stmt.stmt-index ≡ length c.args.stmts.now = omega (arith, c.loop-stmt.auto.stmt-index-end, c.loop-stmt-test.false) in
    let e = in_place_end stmt_view (resolved_of_stmt env) c.args.stmts.now c.loop-stmt.stmts c.loop-stmt.stmt-index c.loop-stmt.invariant.0 last in (
      ap (λ l. kept_all (met_view c.loop-stmt.least) (faults_of_stmts env (stmts_of l))) (sym e.1) ∙ c.loop-stmt.invariant.1,
      ap stmts_of e.0 ∙ resolved-stmts_of env (map stmt_view c.args.stmts.now),
    )
