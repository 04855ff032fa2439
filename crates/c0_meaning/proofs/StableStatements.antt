-- Statements with their names resolved: their faults and sizes stay, and resolving them again changes nothing. The same for arguments
-- and for what is tested.
use Rattle.std.proofs.Common.{◌≡◌, ℕ, List, [], ◌∷◌, length, map, Option, Some, None, refl}
use Rattle.std.specs.List.{list_all}
use Rattle.c0_tree.specs.declared.tree.Span.{Span}
use Rattle.c0_tree.specs.Tree.{CName, CTy, CExpr, CStmt, assign, call, new, choice, loop, CStmts, done, next}
use Rattle.c0_tree.specs.Size.{args_need, args_nodes, stmt_nodes, stmts_nodes}
use Rattle.c0_tree.specs.Plain.{is_plain_expr, stmts_length, is_plain_stmt, are_plain_stmts}
use Rattle.c0_meaning.specs.Ty.{Ty, bool, ty_of}
use Rattle.c0_meaning.specs.Env.{Env, Callee, callee_named}
use Rattle.c0_meaning.specs.Fault.{Fault}
use Rattle.c0_meaning.specs.Expression.{resolved}
use Rattle.c0_meaning.specs.Statement.{given_faults, tested_faults, left_type, left_faults, callee_faults, parameter_types, args_faults, first_of, rest_of, stmt_faults, stmts_faults, numbered_callee, stmt_resolved, stmts_resolved}
use Rattle.c0_meaning.proofs.StableTypes.{IsAt}
use Rattle.c0_meaning.proofs.StableExpressions.{IsKept, kept}

-- where a type may be asked
given_kept : (env : Env) (want : Option Ty) (e d : CExpr) → IsKept env e d → given_faults env want d ≡ given_faults env want e
given_kept env want e d k = cc

pub tested_kept : (env : Env) (want : Ty) (e d : CExpr) → IsKept env e d → tested_faults env want d ≡ tested_faults env want e
tested_kept env want e d k = cc (given_kept env (Some want) e d k)

-- a left side of which the same is read
record IsLeftKept (env : Env) (p q : CExpr) : Type 0 where
  asks : left_type env q ≡ left_type env p
  faulty : left_faults env q ≡ left_faults env p

left_kept : (env : Env) (p q : CExpr) → IsKept env p q → IsLeftKept env p q
left_kept env p q k = record { asks = cc; faulty = cc }

-- arguments of which the same is read, and that resolving leaves as they are
record AreKept (env : Env) (es ds : List CExpr) : Type 0 where
  faulty : (params : List Ty) → args_faults env params ds ≡ args_faults env params es
  needed : args_need ds ≡ args_need es
  counted : args_nodes ds ≡ args_nodes es
  many : length ds ≡ length es
  plain : list_all is_plain_expr ds ≡ list_all is_plain_expr es
  again : map (resolved env) ds ≡ ds

args_kept : (env : Env) (es : List CExpr) → AreKept env es (map (resolved env) es)
args_kept env [] = record { faulty = λ params. refl; needed = refl; counted = refl; many = refl; plain = refl; again = refl }
args_kept env (e ∷ es) =
    let k : IsKept env e (resolved env e) = kept env e in
    let ks : AreKept env es (map (resolved env) es) = args_kept env es in
    record {
      faulty = λ params. cc (given_kept env (first_of params) e (resolved env e) k, ks.faulty (rest_of params));
      needed = cc;
      counted = cc;
      many = cc;
      plain = cc;
      again = cc;
    }

-- a called name
callee_at : (f : CName) (found : Option Callee) → IsAt f (numbered_callee f found)
callee_at f None = record { text = refl; span = refl }
callee_at f (Some c) = record { text = refl; span = refl }

callee_again : (f : CName) (found : Option Callee) → numbered_callee (numbered_callee f found) found ≡ numbered_callee f found
callee_again f None = refl
callee_again f (Some c) = refl

callee_kept : (s : Span) (f g : CName) (want : Option Ty) (count : ℕ) (found : Option Callee) → IsAt f g
    → callee_faults s g want count found ≡ callee_faults s f want count found
callee_kept s f g want count None at = cc
callee_kept s f g want count (Some c) at = refl

-- what `new` reads of a type stays, and resolving it again changes nothing
pub record IsSettled (declared : CTy → Span → List Fault) (settled : CTy → CTy) : Type 0 where
  pub faulty : (t : CTy) (s : Span) → declared (settled t) s ≡ declared t s
  pub same : (t : CTy) → ty_of (settled t) ≡ ty_of t
  pub again : (t : CTy) → settled (settled t) ≡ settled t

-- a statement of which the same is read as of another, and that resolving leaves as it is
pub record IsStmtKept (declared : CTy → Span → List Fault) (settled : CTy → CTy) (env : Env) (s r : CStmt) : Type 0 where
  pub faulty : stmt_faults declared env r ≡ stmt_faults declared env s
  pub counted : stmt_nodes r ≡ stmt_nodes s
  pub plain : is_plain_stmt r ≡ is_plain_stmt s
  pub again : stmt_resolved settled env r ≡ r

-- and so a list of them
pub record AreStmtsKept (declared : CTy → Span → List Fault) (settled : CTy → CTy) (env : Env) (ss rs : CStmts) : Type 0 where
  pub faulty : stmts_faults declared env rs ≡ stmts_faults declared env ss
  pub counted : stmts_nodes rs ≡ stmts_nodes ss
  pub many : stmts_length rs ≡ stmts_length ss
  pub plain : are_plain_stmts rs ≡ are_plain_stmts ss
  pub again : stmts_resolved settled env rs ≡ rs

-- one statement of each kind, over parts that are kept
assign_kept : (declared : CTy → Span → List Fault) (settled : CTy → CTy) (env : Env) (s : Span) (p q v w : CExpr) → IsKept env p q
    → IsKept env v w
    → IsStmtKept declared settled env (assign s p v) (assign s q w)
assign_kept declared settled env s p q v w k l =
    let left : IsLeftKept env p q = left_kept env p q k in
    record {
      faulty = cc (given_kept env (left_type env p) v w l);
      counted = cc;
      plain = cc;
      again = cc;
    }

call_kept : (declared : CTy → Span → List Fault) (settled : CTy → CTy) (env : Env) (s : Span) (p q : CExpr) (cs : Span) (f g : CName) (es ds : List CExpr)
    → IsKept env p q → IsAt f g → numbered_callee g (callee_named env f.text) ≡ g → AreKept env es ds
    → IsStmtKept declared settled env (call s p cs f es) (call s q cs g ds)
call_kept declared settled env s p q cs f g es ds k at again ks =
    let left : IsLeftKept env p q = left_kept env p q k in
    record {
      faulty = cc (callee_kept cs f g (left_type env p) (length es) (callee_named env f.text) at, ks.faulty (parameter_types (callee_named env f.text)));
      counted = cc;
      plain = cc;
      again = cc;
    }

new_kept : (declared : CTy → Span → List Fault) (settled : CTy → CTy) (env : Env) (s : Span) (p q : CExpr) (t : CTy) (ts : Span)
    → IsSettled declared settled → IsKept env p q → IsStmtKept declared settled env (new s p t ts) (new s q (settled t) ts)
new_kept declared settled env s p q t ts settles k =
    let left : IsLeftKept env p q = left_kept env p q k in
    record {
      faulty = cc (settles.faulty t ts, settles.same t);
      counted = cc;
      plain = k.plain;
      again = cc (settles.again t);
    }

choice_kept : (declared : CTy → Span → List Fault) (settled : CTy → CTy) (env : Env) (s : Span) (t u : CExpr) (a c b d : CStmts)
    → IsKept env t u → AreStmtsKept declared settled env a c → AreStmtsKept declared settled env b d
    → IsStmtKept declared settled env (choice s t a b) (choice s u c d)
choice_kept declared settled env s t u a c b d k x y = record {
  faulty = cc (tested_kept env bool t u k);
  counted = cc;
  plain = cc;
  again = cc;
}

loop_kept : (declared : CTy → Span → List Fault) (settled : CTy → CTy) (env : Env) (s : Span) (t u : CExpr) (b d : CStmts)
    → IsKept env t u → AreStmtsKept declared settled env b d → IsStmtKept declared settled env (loop s t b) (loop s u d)
loop_kept declared settled env s t u b d k y = record {
  faulty = cc (tested_kept env bool t u k);
  counted = cc;
  plain = cc;
  again = cc;
}

next_kept : (declared : CTy → Span → List Fault) (settled : CTy → CTy) (env : Env) (s r : CStmt) (ss rs : CStmts)
    → IsStmtKept declared settled env s r → AreStmtsKept declared settled env ss rs → AreStmtsKept declared settled env (next s ss) (next r rs)
next_kept declared settled env s r ss rs k ks = record { faulty = cc; counted = cc; many = cc; plain = cc; again = cc }

mutual
  stmt_kept : (declared : CTy → Span → List Fault) (settled : CTy → CTy) (env : Env) → IsSettled declared settled → (s : CStmt)
      → IsStmtKept declared settled env s (stmt_resolved settled env s)
  stmt_kept declared settled env h (assign s p v) = assign_kept declared settled env s p _ v _ (kept env p) (kept env v)
  stmt_kept declared settled env h (call s p cs f args) =
      let found = callee_named env f.text in
      call_kept declared settled env s p _ cs f _ args _ (kept env p) (callee_at f found) (callee_again f found) (args_kept env args)
  stmt_kept declared settled env h (new s p t ts) = new_kept declared settled env s p _ t ts h (kept env p)
  stmt_kept declared settled env h (choice s t a b) =
      choice_kept declared settled env s t _ a _ b _ (kept env t) (stmts_kept declared settled env h a) (stmts_kept declared settled env h b)
  stmt_kept declared settled env h (loop s t b) = loop_kept declared settled env s t _ b _ (kept env t) (stmts_kept declared settled env h b)

  -- resolving keeps statements
  pub stmts_kept : (declared : CTy → Span → List Fault) (settled : CTy → CTy) (env : Env) → IsSettled declared settled → (ss : CStmts)
      → AreStmtsKept declared settled env ss (stmts_resolved settled env ss)
  stmts_kept declared settled env h done = record { faulty = refl; counted = refl; many = refl; plain = refl; again = refl }
  stmts_kept declared settled env h (next s rest) = next_kept declared settled env s _ rest _ (stmt_kept declared settled env h s) (stmts_kept declared settled env h rest)
