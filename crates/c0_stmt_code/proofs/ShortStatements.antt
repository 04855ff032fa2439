-- How long the code of statements is: at most 16 words a node.
use Rattle.std.specs.Prelude.{Option, Some, None, if◌then◌else◌, nat_lt}
use Rattle.std.proofs.Common.{◌≡◌, refl, inl, inr, ℕ, suc, ◌+◌, ◌*◌, ◌/◌, ◌%◌, ◌^◌, ◌≤◌, Bool, true, false, List, [], ◌∷◌, ◌++◌, length, ap, arith, length-append, ◌<◌}
use Rattle.std.proofs.lemmas.Bool.{cases_Bool, cond-true, cond-false}
use Rattle.mips_table.specs.declared.inst.Inst.{Inst}
use Rattle.mips_table.specs.declared.inst.Inst.TheVariants.{Lui, Addu, Sw, Ori, Addiu, Jal}
use Rattle.c0_tree.specs.Size.{nodes, args_nodes, stmt_nodes, stmts_nodes}
use Rattle.c0_tree.specs.Tree.{CExpr, CStmt, assign, call, new, choice, loop, CStmts, done, next}
use Rattle.c0_meaning.specs.Ty.{ty_of}
use Rattle.c0_meaning.specs.Words.{words}
use Rattle.c0_expr_code.specs.declared.facts.Facts.{Facts}
use Rattle.c0_expr_code.specs.Facts.{facts_called, overwritten, renewed}
use Rattle.c0_expr_code.specs.Scope.{Scope}
use Rattle.c0_expr_code.specs.Code.{AddressingMode, is_near, low, high, access_code, constant_code, operand_code, operand_register, made, value_code, register_of_variable}
use Rattle.c0_expr_code.specs.Test.{test_code}
use Rattle.c0_stmt_code.specs.Code.{Links, callee_index, answer_code, stored_code, assigned_code, args_code, otherwise, otherwise_at, back, turn_code, stmt_code, stmts_code, facts_behind_stmt, told_facts, turn_facts}
use Rattle.c0_stmt_code.proofs.RegisterVariables.{keeps_them}
use Rattle.c0_stmt_code.proofs.PremisesOfFunctions.{LengthsFit}

-- code on a place isn't empty
pub access_longer : (i : ℕ → ℕ → Inst) (r : ℕ) (x : AddressingMode) → length x.code < length (access_code i r x)
access_longer i r x = elim (cases_Bool (is_near x.displacement)) [
  | inl e ↦ let same = ap (λ is. length (x.code ++ is)) (cond-true (is_near x.displacement) (i x.base (low x.displacement) ∷ []) (Lui 1 (high x.displacement) ∷ Addu r x.base 1 ∷ i r (low x.displacement) ∷ []) e) in omega (arith, same, length-append x.code (i x.base (low x.displacement) ∷ []))
  | inr e ↦ let same = ap (λ is. length (x.code ++ is)) (cond-false (is_near x.displacement) (i x.base (low x.displacement) ∷ []) (Lui 1 (high x.displacement) ∷ Addu r x.base 1 ∷ i r (low x.displacement) ∷ []) e) in omega (arith, same, length-append x.code (Lui 1 (high x.displacement) ∷ Addu r x.base 1 ∷ i r (low x.displacement) ∷ []))
]

pub access_length : (i : ℕ → ℕ → Inst) (r : ℕ) (x : AddressingMode) → length (access_code i r x) ≤ length x.code + 3
access_length i r x = elim (cases_Bool (is_near x.displacement)) [
  | inl e ↦ let same = ap (λ is. length (x.code ++ is)) (cond-true (is_near x.displacement) (i x.base (low x.displacement) ∷ []) (Lui 1 (high x.displacement) ∷ Addu r x.base 1 ∷ i r (low x.displacement) ∷ []) e) in omega (arith, same, length-append x.code (i x.base (low x.displacement) ∷ []))
  | inr e ↦ let same = ap (λ is. length (x.code ++ is)) (cond-false (is_near x.displacement) (i x.base (low x.displacement) ∷ []) (Lui 1 (high x.displacement) ∷ Addu r x.base 1 ∷ i r (low x.displacement) ∷ []) e) in omega (arith, same, length-append x.code (Lui 1 (high x.displacement) ∷ Addu r x.base 1 ∷ i r (low x.displacement) ∷ []))
]

pub constant_length : (d n : ℕ) → length (constant_code d n) ≤ 2
constant_length d n = by_tests (nat_lt n (2 ^ 16)) (is_near n)
  where
    by_tests : (a b : Bool) → length (if a then Ori d 0 n ∷ [] else if b then Addiu d 0 (low n) ∷ [] else Lui d (n / 2 ^ 16 % 2 ^ 16) ∷ Ori d d (n % 2 ^ 16) ∷ []) ≤ 2
    by_tests true b = omega arith
    by_tests false true = omega arith
    by_tests false false = omega arith

module _ (sc : Scope) (x : Links) (fit : LengthsFit sc) where
  stored_length : (fs : Facts) (q r : ℕ) (p : CExpr) (o : Option ℕ) → length (stored_code q r o (made sc fs p).place) ≤ 14 * nodes p
  stored_length fs q r p (Some y) = let n = fit.place fs p r in omega (arith, n)
  stored_length fs q r p None = let n = fit.place fs p r in let s = access_length (λ b k. Sw q b k) r ((made sc fs p).place r) in omega (arith, n, s)

  pub answer_length : (fs : Facts) (p : CExpr) → length (answer_code sc fs p) ≤ 14 * nodes p
  answer_length fs p = stored_length fs 2 8 p (made sc fs p).register

  assigned_length : (fs : Facts) (p v : CExpr) (o : Option ℕ) → length (assigned_code o (made sc fs p) (made sc fs v)) ≤ 14 * nodes p + 14 * nodes v
  assigned_length fs p v (Some y) = let n = fit.value fs v y 8 in omega (arith, n)
  assigned_length fs p v None =
      let n = fit.operand fs v 8 in
      let m = fit.place fs p 9 in
      let s = access_length (λ b k. Sw (operand_register (made sc fs v) 8) b k) 9 ((made sc fs p).place 9) in
      omega (arith, n, m, s, length-append (operand_code (made sc fs v) 8) (access_code (λ b k. Sw (operand_register (made sc fs v) 8) b k) 9 ((made sc fs p).place 9)))

  pub args_length : (fs : Facts) (es : List CExpr) (i : ℕ) → length (args_code sc fs es i) ≤ 14 * args_nodes es
  args_length fs [] i = omega arith
  args_length fs (e ∷ es) i =
      let n = fit.value fs e (register_of_variable i) 8 in
      let m = args_length (overwritten fs i) es (suc i) in
      omega (arith, n, m, length-append (value_code sc fs e (register_of_variable i) 8) (args_code sc (overwritten fs i) es (suc i)))

  otherwise_length : (b : CStmts) (code : List Inst) → length (otherwise b code) ≤ 1 + length code
  otherwise_length done code = omega arith
  otherwise_length (next s rest) code = omega arith

  mutual
    pub stmt_length : (fs : Facts) (t : CStmt) → length (stmt_code sc fs x t) ≤ 16 * stmt_nodes t
    stmt_length fs (assign s p v) = let n = assigned_length fs p v (made sc fs p).register in omega (arith, n)
    stmt_length fs (call s p cs f args) =
        let n = args_length fs args 0 in
        let m = answer_length (facts_called fs) p in
        omega (arith, n, m, length-append (args_code sc fs args 0) (Jal (callee_index x f.kind f.number) ∷ answer_code sc (facts_called fs) p))
    stmt_length fs (new s p t ts) =
        let n = constant_length 2 (words sc.env.structs (ty_of t) % 2 ^ 32) in
        let m = answer_length (renewed fs) p in
        omega (arith, n, m, length-append (constant_code 2 (words sc.env.structs (ty_of t) % 2 ^ 32)) (Jal x.new_object ∷ answer_code sc (renewed fs) p))
    stmt_length fs (choice s t a b) =
        let far = (length (stmts_code sc (told_facts sc fs t true) x a) + otherwise_at b) % 2 ^ 16 in
        let n = fit.test fs t false ((length (stmts_code sc (told_facts sc fs t true) x a) + otherwise_at b) % 2 ^ 16) 8 in
        let m = stmts_length (told_facts sc fs t true) a in
        let k = stmts_length (told_facts sc fs t false) b in
        let o = otherwise_length b (stmts_code sc (told_facts sc fs t false) x b) in
        omega (arith, n, m, k, o, length-append (test_code sc fs t false ((length (stmts_code sc (told_facts sc fs t true) x a) + otherwise_at b) % 2 ^ 16) 8) (stmts_code sc (told_facts sc fs t true) x a ++ otherwise b (stmts_code sc (told_facts sc fs t false) x b)), length-append (stmts_code sc (told_facts sc fs t true) x a) (otherwise b (stmts_code sc (told_facts sc fs t false) x b)))
    stmt_length fs (loop s t b) =
        let n = fit.test (turn_facts sc fs b) t true (back sc (turn_facts sc fs b) t (stmts_code sc (told_facts sc (turn_facts sc fs b) t true) x b)) 8 in
        let m = stmts_length (told_facts sc (turn_facts sc fs b) t true) b in
        omega (arith, n, m, length-append (stmts_code sc (told_facts sc (turn_facts sc fs b) t true) x b) (turn_code sc (turn_facts sc fs b) t (stmts_code sc (told_facts sc (turn_facts sc fs b) t true) x b)))

    pub stmts_length : (fs : Facts) (ss : CStmts) → length (stmts_code sc fs x ss) ≤ 16 * stmts_nodes ss
    stmts_length fs done = omega arith
    stmts_length fs (next s rest) =
        let n = stmt_length fs s in
        let m = stmts_length (facts_behind_stmt sc fs s) rest in
        omega (arith, n, m, length-append (stmt_code sc fs x s) (stmts_code sc (facts_behind_stmt sc fs s) x rest))

  assigned_some : (fs : Facts) (p v : CExpr) (o : Option ℕ) → (made sc fs p).register ≡ o → 1 ≤ length (assigned_code o (made sc fs p) (made sc fs v))
  assigned_some fs p v (Some y) e = fit.value_some (keeps_them sc fs p y e) fs v y 8
  assigned_some fs p v None e =
      let s = access_longer (λ b k. Sw (operand_register (made sc fs v) 8) b k) 9 ((made sc fs p).place 9) in
      omega (arith, s, length-append (operand_code (made sc fs v) 8) (access_code (λ b k. Sw (operand_register (made sc fs v) 8) b k) 9 ((made sc fs p).place 9)))

  -- no statement is without code
  pub stmt_some : (fs : Facts) (t : CStmt) → 1 ≤ length (stmt_code sc fs x t)
  stmt_some fs (assign s p v) = assigned_some fs p v (made sc fs p).register refl
  stmt_some fs (call s p cs f args) = omega (arith, length-append (args_code sc fs args 0) (Jal (callee_index x f.kind f.number) ∷ answer_code sc (facts_called fs) p))
  stmt_some fs (new s p t ts) = omega (arith, length-append (constant_code 2 (words sc.env.structs (ty_of t) % 2 ^ 32)) (Jal x.new_object ∷ answer_code sc (renewed fs) p))
  stmt_some fs (choice s t a b) =
      let n = fit.test_some fs t false ((length (stmts_code sc (told_facts sc fs t true) x a) + otherwise_at b) % 2 ^ 16) 8 in
      omega (arith, n, length-append (test_code sc fs t false ((length (stmts_code sc (told_facts sc fs t true) x a) + otherwise_at b) % 2 ^ 16) 8) (stmts_code sc (told_facts sc fs t true) x a ++ otherwise b (stmts_code sc (told_facts sc fs t false) x b)))
  stmt_some fs (loop s t b) = omega arith
