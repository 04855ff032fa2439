-- What is left to do as code ahead: pending jumps are taken, and blocks end where the next item stands.
use Rattle.std.proofs.Common.{◌≡◌, ℕ, zero, suc, ◌+◌, ◌%◌, ◌^◌, ◌<◌, ◌≤◌, ◌||◌, Bool, true, false, List, [], ◌∷◌, ◌++◌, length, Some, refl, subst, arith, length-append}
use Rattle.mips_table.specs.Code.{Contents, Behind, World, at_with, settle, Reaches, RunLaws, CodeAt}
use Rattle.mips_table.specs.Device.{Idle}
use Rattle.mips_table.specs.declared.inst.Inst.{Inst}
use Rattle.masm.specs.Laws.{RunsCompose, JumpsLead}
use Rattle.c0_tree.specs.Size.{stmts_nodes}
use Rattle.c0_tree.specs.Tree.{CStmt, CStmts, done, next, CFunction}
use Rattle.c0_meaning.specs.Env.{Env}
use Rattle.c0_meaning.specs.Numbered.{IsNumbered, AreNumbered, a_statement}
use Rattle.c0_meaning.specs.Running.{Work, push}
use Rattle.std.specs.Prelude.{IsTrue}
use Rattle.std.proofs.lemmas.Bool.{and_parts}
use Rattle.c0_typed.specs.Leaf.{are_calling, are_free_of_calls, calls_in, is_calling, is_free_of_calls}
use Rattle.c0_expr_code.specs.declared.facts.Facts.{Facts}
use Rattle.c0_expr_code.specs.Facts.{IsWithin}
use Rattle.c0_stmt_code.specs.Code.{skip, stmt_code, stmts_code, facts_behind_stmt, facts_behind_stmts}
use Rattle.c0_runs.specs.Ahead.{Activation, Text, body_env, knowing, MAX_NODES, Skips, Block, Ahead}
use Rattle.c0_runs.proofs.FactsBehind.{within_itself}
use Rattle.c0_runs.proofs.RunStretches.{Stretch, none, on, within, away}

module _ (runs : RunLaws) (compose : RunsCompose) (w : World) (jumps : JumpsLead w) where
  -- a jump over so many words
  pub skipped : (k over : ℕ) (c : Contents) (d : Behind) → d.pending ≡ Idle → over < 32768 → w.code k ≡ Some (skip over) → Reaches w 1 (at_with k c d) (at_with (k + 1 + over) c d)
  skipped k over c d idle lt code =
      let small : over % 2 ^ 16 ≡ over = omega arith in
      let run = jumps.taken (skip over) k (over % 2 ^ 16) true c d code refl refl (omega (arith, small)) in
      compose.settled w 1 (k + 1 + over) (at_with k c d) c d idle (subst (λ n. Reaches w 1 (at_with k c d) (settle (k + 1 + n) c d)) small run)

  -- pending jumps are taken, a step each
  pub taken : (n k to : ℕ) (c : Contents) (d : Behind) → d.pending ≡ Idle → Skips w n k to → Stretch runs w 0 n (at_with k c d) (at_with to c d)
  taken zero k to c d idle h = subst (λ t. Stretch runs w 0 0 (at_with k c d) (at_with t c d)) h (none runs w (at_with k c d))
  taken (suc n) k to c d idle h =
      let one = away runs w 1 (at_with k c d) (at_with (k + 1 + h.0) c d) (λ e. absurd (omega (arith, e))) (skipped k h.0 c d idle h.1 h.2) in
      let rest = taken n (k + 1 + h.0) to c d idle h.3 in
      within runs w (1 + 0) (1 + n) 0 (suc n) _ _ (omega arith) (omega arith) (on runs w 1 1 0 n _ _ _ one rest)

-- the first of typed statements, and the others
pub first_typed : (env : Env) (t : CStmt) (rest : CStmts) → AreNumbered env (next t rest) → IsNumbered env t × AreNumbered env rest
first_typed env t rest (a_statement g gs) = (g, gs)

pub or_left : (a b : Bool) → a ≡ true → (a || b) ≡ true
or_left true b e = refl
or_left false b e = absurd (cc)

pub or_right : (a b : Bool) → b ≡ true → (a || b) ≡ true
or_right true b e = refl
or_right false b e = e

-- where the parts of code stand
pub front : (w : World) (m : ℕ) (a b : List Inst) → CodeAt w m (a ++ b) → CodeAt w m a
front w m [] b g = tt
front w m (i ∷ a) b g = (g.0, front w (m + 1) a b g.1)

pub back : (w : World) (m : ℕ) (a b : List Inst) → CodeAt w m (a ++ b) → CodeAt w (m + length a) b
back w m [] b g = subst (λ y. CodeAt w y b) (omega arith) g
back w m (i ∷ a) b g = let e : m + 1 + length a ≡ m + length (i ∷ a) = omega arith in subst (λ y. CodeAt w y b) e (back w (m + 1) a b g.1)

module _ (x : Text) (f : CFunction) (follows : Facts → ℕ → ℕ → Type 0) where
  -- statements stand at a word, and jumps behind them lead to what follows, by some of what is known there
  pub block_of : (ss : CStmts) (fs : Facts) (k n to left debt : ℕ) → AreNumbered (body_env x f) ss → stmts_nodes ss ≤ MAX_NODES → ((x.scope f).in_registers ≡ true → IsTrue (are_free_of_calls ss)) → (IsTrue (are_calling ss) → calls_in f.body ≡ true) → CodeAt x.w k (stmts_code (x.scope f) fs x.links ss)
      → Skips x.w n (k + length (stmts_code (x.scope f) fs x.links ss)) to → debt ≡ n + left → (known : Facts) → IsWithin known (facts_behind_stmts (x.scope f) fs ss) → follows known to left → Block x f fs k debt ss follows
  block_of done fs k n to left debt typed few free calls code skips e known w h = (known, w, n, to, left, e, subst (λ y. Skips x.w n y to) (omega arith) skips, h)
  block_of (next t rest) fs k n to left debt typed few free calls code skips e known w h =
      let g = first_typed (body_env x f) t rest typed in
      let le : k + length (stmt_code (x.scope f) fs x.links t ++ stmts_code (x.scope f) (facts_behind_stmt (x.scope f) fs t) x.links rest) ≡ k + length (stmt_code (x.scope f) fs x.links t) + length (stmts_code (x.scope f) (facts_behind_stmt (x.scope f) fs t) x.links rest) = omega (arith, length-append (stmt_code (x.scope f) fs x.links t) (stmts_code (x.scope f) (facts_behind_stmt (x.scope f) fs t) x.links rest)) in (
        record { typed = g.0; few = omega (arith, few); free = λ e. (and_parts (is_free_of_calls t) (are_free_of_calls rest) (free e)).0; calls = λ e. calls (or_left (is_calling t) (are_calling rest) e); code = front x.w k (stmt_code (x.scope f) fs x.links t) (stmts_code (x.scope f) (facts_behind_stmt (x.scope f) fs t) x.links rest) code },
        block_of rest (facts_behind_stmt (x.scope f) fs t) (k + length (stmt_code (x.scope f) fs x.links t)) n to left debt g.1 (omega (arith, few)) (λ e. (and_parts (is_free_of_calls t) (are_free_of_calls rest) (free e)).1) (λ e. calls (or_right (is_calling t) (are_calling rest) e)) (back x.w k (stmt_code (x.scope f) fs x.links t) (stmts_code (x.scope f) (facts_behind_stmt (x.scope f) fs t) x.links rest) code) (subst (λ y. Skips x.w n y to) le skips) e known w h,
      )

-- where the rest of a block and then what is left to do stand ahead, by some of what is known
pub record Follows (x : Text) (a : Activation) (others : List Activation) (k debt : ℕ) (work : List Work) : Type 0 where
  pub known : Facts
  pub fewer : IsWithin known a.facts
  pub count : ℕ
  pub to : ℕ
  pub left : ℕ
  pub owed : debt ≡ count + left
  pub skips : Skips x.w count k to
  pub ahead : Ahead x (knowing a known ∷ others) to left work

-- what is left to do where a block ends, by what is known there
abbrev pub Goes : (x : Text) (a : Activation) (others : List Activation) (work : List Work) → Facts → ℕ → ℕ → Type 0
Goes x a others work fs to left = Ahead x (knowing a fs ∷ others) to left work

pub behind : (x : Text) (a : Activation) (others : List Activation) (k debt : ℕ) (rest : CStmts) (work : List Work) → Block x a.function a.facts k debt rest (λ fs to left. Goes x a others work fs to left) → Follows x a others k debt (push rest work)
behind x a others k debt done work h = record { known = h.0; fewer = h.1; count = h.2; to = h.3; left = h.4; owed = h.5; skips = h.6; ahead = h.7 }
behind x a others k debt (next t rest) work h = record { known = a.facts; fewer = within_itself a.facts; count = 0; to = k; left = debt; owed = omega arith; skips = refl; ahead = h }
