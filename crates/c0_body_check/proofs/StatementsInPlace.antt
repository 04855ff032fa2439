-- Lists of statements, changed in place one after the other.
use Rattle.std.proofs.Common.{◌≡◌, ℕ, zero, suc, ◌+◌, ◌*◌, ◌<◌, ◌≤◌, List, [], ◌∷◌, length, map, get_or, Option, refl, sym, ap, ◌∙◌, subst, arith}
use Rattle.c0_tree.specs.Tree.{CStmt, CStmts, next}
use Rattle.c0_tree.specs.Size.{stmt_nodes, stmts_nodes}
use Rattle.c0_tree.specs.View.{stmts_of, stmts_view}
use Rattle.c0_tree.specs.declared.tree.Stmt.{Stmt}
use Rattle.c0_meaning.specs.Env.{Env}
use Rattle.c0_meaning.specs.Fault.{Fault, kept_all}
use Rattle.c0_body_check.specs.Stmts.{ChecksStmts, faults_of_stmt, faults_of_stmts, resolved_of_stmt, resolved_of_stmts}
use Rattle.c0_body_check.proofs.InPlace.{rest, rest-next}
use Rattle.c0_name_check.proofs.FaultsMet.{kept_all-append}

-- a statement has no more nodes than the list that it is of
pub nodes_within : (i : ℕ) (ss : List CStmt) (d : CStmt) → i < length ss → stmt_nodes (get_or ss i d) ≤ stmts_nodes (stmts_of ss)
nodes_within zero [] d h = absurd (omega (arith, h))
nodes_within zero (s ∷ ss) d h = omega arith
nodes_within (suc i) [] d h = absurd (omega (arith, h))
nodes_within (suc i) (s ∷ ss) d h = let r = nodes_within i ss d (omega (arith, h)) in omega (arith, r)

-- a list of statements is resolved one by one
pub resolved-stmts_of : (env : Env) (ss : List CStmt) → stmts_of (map (resolved_of_stmt env) ss) ≡ resolved_of_stmts env (stmts_of ss)
resolved-stmts_of env [] = refl
resolved-stmts_of env (s ∷ ss) = ap (next (resolved_of_stmt env s)) (resolved-stmts_of env ss)

-- one statement more is checked
pub stmts_step : (env : Env) (ss : List CStmt) (i : ℕ) (s : CStmt) (m n target : Option Fault) → i < length ss → s ≡ get_or ss i s → n ≡ kept_all m (faults_of_stmt env s)
    → kept_all m (faults_of_stmts env (stmts_of (rest i ss))) ≡ target → kept_all n (faults_of_stmts env (stmts_of (rest (i + 1) ss))) ≡ target
stmts_step env ss i s m n target within was met inv =
    let next : rest i ss ≡ s ∷ rest (i + 1) ss = rest-next i ss s within ∙ ap (λ x. x ∷ rest (i + 1) ss) (sym was) in
    ap (λ x. kept_all x (faults_of_stmts env (stmts_of (rest (i + 1) ss)))) met
    ∙ (sym (kept_all-append m (faults_of_stmt env s) (faults_of_stmts env (stmts_of (rest (i + 1) ss))))
    ∙ (ap (λ l. kept_all m (faults_of_stmts env (stmts_of l))) (sym next) ∙ inv))

-- statements that were lent
pub lent_stmts : (env : Env) (xs ys : List Stmt) (m n : Option Fault) (after : CStmts) → xs ≡ ys → ChecksStmts env (stmts_view xs) m n after → ChecksStmts env (stmts_view ys) m n after
lent_stmts env xs ys m n after e w = subst (λ l. ChecksStmts env (stmts_view l) m n after) e w

-- the check of a statement of a list falls
pub stmt_falls : (ss : List CStmt) (i : ℕ) (s : CStmt) (t : ℕ) → 3 * stmts_nodes (stmts_of ss) + 1 ≡ t → s ≡ get_or ss i s → i < length ss → 3 * stmt_nodes s < t
stmt_falls ss i s t e was within =
    let within_all : stmt_nodes s ≤ stmts_nodes (stmts_of ss) = subst (λ x. stmt_nodes x ≤ stmts_nodes (stmts_of ss)) (sym was) (nodes_within i ss s within) in
    omega (arith, e, within_all)
