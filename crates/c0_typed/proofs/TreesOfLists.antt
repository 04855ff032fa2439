-- The typed trees of lists.
use Rattle.std.proofs.Common.{◌≡◌, ℕ, ◌≤◌, List, [], ◌∷◌, ◌++◌, map, length, drop, refl, sym, ap, ◌∙◌, append-nil}
use Rattle.std.proofs.lemmas.List.{drop_all}
use Rattle.c0_tree.specs.declared.tree.Stmt.{Stmt}
use Rattle.c0_tree.specs.Tree.{CStmt}
use Rattle.c0_tree.specs.View.{stmt_view, stmts_of, stmts_view}
use Rattle.c0_meaning.specs.Env.{Env}
use Rattle.c0_typed.specs.Tree.{TStmt, TStmts, next}
use Rattle.c0_typed.specs.Typed.{typed_of_stmt, typed_of_stmts}
use Rattle.c0_typed.specs.View.{typed_stmts_of}

-- statements one after another
typed_list : (env : Env) (ss : List CStmt) → typed_of_stmts env (stmts_of ss) ≡ typed_stmts_of (map (typed_of_stmt env) ss)
typed_list env [] = refl
typed_list env (s ∷ ss) = ap (λ (r : TStmts). next (typed_of_stmt env s) r) (typed_list env ss)

-- the trees so far are those of all where none is left
pub all_typed : (env : Env) (ss : List Stmt) (i : ℕ) (ts : List TStmt) → length ss ≤ i
    → ts ++ map (typed_of_stmt env) (map stmt_view (drop i ss)) ≡ map (typed_of_stmt env) (map stmt_view ss) → typed_stmts_of ts ≡ typed_of_stmts env (stmts_view ss)
all_typed env ss i ts past so =
    ap typed_stmts_of (sym (append-nil ts) ∙ ap (λ (l : List Stmt). ts ++ map (typed_of_stmt env) (map stmt_view l)) (sym (drop_all i ss past)) ∙ so)
    ∙ sym (typed_list env (map stmt_view ss))
