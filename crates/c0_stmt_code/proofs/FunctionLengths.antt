-- How long the code of functions is: as long wherever what it calls stands, and at most 32 words a node.
use Rattle.std.specs.Prelude.{map, max, ◌-◌, if◌then◌else◌, nat_le, nat_lt}
use Rattle.std.proofs.Common.{◌≡◌, inl, inr, ℕ, zero, suc, ◌+◌, ◌*◌, ◌%◌, ◌^◌, ◌≤◌, Bool, true, false, List, [], ◌∷◌, ◌++◌, length, refl, ap, arith, length-append}
use Rattle.std.proofs.lemmas.Bool.{cases_Bool, cond-true, cond-false, leb-true}
use Rattle.std.proofs.lemmas.List.{length-map}
use Rattle.mips_table.specs.declared.inst.Inst.{Inst}
use Rattle.mips_table.specs.declared.inst.Inst.TheVariants.{Addiu, Beq, Bne, J, Jal, Jr, Lw, Sltu, Sw}
use Rattle.c0_tree.specs.Tree.{CStmt, assign, call, new, choice, loop, CStmts, done, next, CBody, code, asm, CFunction}
use Rattle.c0_meaning.specs.Ty.{ty_of}
use Rattle.c0_meaning.specs.Env.{typed_of}
use Rattle.c0_meaning.specs.Words.{words, all_words}
use Rattle.c0_meaning.specs.Operators.{StackOut}
use Rattle.c0_meaning.specs.Limits.{nodes_of, words_held}
use Rattle.c0_tree.specs.Size.{body_nodes}
use Rattle.c0_asm_body.specs.Code.{asm_code, arguments_code, instruction_of}
use Rattle.c0_typed.specs.Leaf.{are_calling}
use Rattle.c0_expr_code.specs.declared.facts.Facts.{Facts}
use Rattle.c0_expr_code.specs.Facts.{facts_called, nothing_known, renewed}
use Rattle.c0_expr_code.specs.Scope.{Scope}
use Rattle.c0_expr_code.specs.FrameSetting.{FrameSetting, frame_back, frame_setting}
use Rattle.c0_expr_code.specs.Code.{register_of_variable, constant_code, access_code, value_code}
use Rattle.c0_expr_code.specs.Test.{test_code}
use Rattle.c0_stmt_code.specs.Live.{is_cleared}
use Rattle.c0_stmt_code.specs.Code.{Links, callee_index, answer_code, args_code, otherwise, otherwise_at, turn_code, stmt_code, stmts_code, frame_slot, end_code, large_code, stack_test, save_code, restore_code, params_code, zeros_code, zeros_loop, locals_code, clear_code, frame_entry, frame_return, register_entry, register_return, entry_code, exit_code, return_code, body_code as code_of_body, zero_code, clear_one, facts_behind_stmt, facts_behind_stmts, first_facts, told_facts, turn_facts}
use Rattle.c0_stmt_code.proofs.PremisesOfFunctions.{LengthsFit}
use Rattle.c0_stmt_code.proofs.ShortStatements.{access_length, stmts_length}

-- another branch is as long where its code is
otherwise_same : (b : CStmts) (c d : List Inst) → length c ≡ length d → length (otherwise b c) ≡ length (otherwise b d)
otherwise_same done c d e = refl
otherwise_same (next s rest) c d e = omega (arith, e)

module _ (sc : Scope) (x y : Links) where
  mutual
    stmt_same : (fs : Facts) (t : CStmt) → length (stmt_code sc fs x t) ≡ length (stmt_code sc fs y t)
    stmt_same fs (assign s p v) = refl
    stmt_same fs (call s p cs f args) =
        omega (arith, length-append (args_code sc fs args 0) (Jal (callee_index x f.kind f.number) ∷ answer_code sc (facts_called fs) p), length-append (args_code sc fs args 0) (Jal (callee_index y f.kind f.number) ∷ answer_code sc (facts_called fs) p))
    stmt_same fs (new s p t ts) =
        omega (arith, length-append (constant_code 2 (words sc.env.structs (ty_of t) % 2 ^ 32)) (Jal x.new_object ∷ answer_code sc (renewed fs) p), length-append (constant_code 2 (words sc.env.structs (ty_of t) % 2 ^ 32)) (Jal y.new_object ∷ answer_code sc (renewed fs) p))
    stmt_same fs (choice s t a b) =
        let ea = stmts_same (told_facts sc fs t true) a in
        let eb = stmts_same (told_facts sc fs t false) b in
        let o = otherwise_same b (stmts_code sc (told_facts sc fs t false) x b) (stmts_code sc (told_facts sc fs t false) y b) eb in
        let e = ap (λ n. length (test_code sc fs t false ((n + otherwise_at b) % 2 ^ 16) 8)) ea in
        omega (
          arith,
          ea,
          o,
          e,
          length-append (test_code sc fs t false ((length (stmts_code sc (told_facts sc fs t true) x a) + otherwise_at b) % 2 ^ 16) 8) (stmts_code sc (told_facts sc fs t true) x a ++ otherwise b (stmts_code sc (told_facts sc fs t false) x b)),
          length-append (stmts_code sc (told_facts sc fs t true) x a) (otherwise b (stmts_code sc (told_facts sc fs t false) x b)),
          length-append (test_code sc fs t false ((length (stmts_code sc (told_facts sc fs t true) y a) + otherwise_at b) % 2 ^ 16) 8) (stmts_code sc (told_facts sc fs t true) y a ++ otherwise b (stmts_code sc (told_facts sc fs t false) y b)),
          length-append (stmts_code sc (told_facts sc fs t true) y a) (otherwise b (stmts_code sc (told_facts sc fs t false) y b)),
        )
    stmt_same fs (loop s t b) =
        let eb = stmts_same (told_facts sc (turn_facts sc fs b) t true) b in
        let e = ap (λ (n : ℕ). length (test_code sc (turn_facts sc fs b) t true ((2 ^ 16 - (max n 1 + length (test_code sc (turn_facts sc fs b) t true 0 8)) % 2 ^ 16) % 2 ^ 16) 8)) eb in
        omega (arith, eb, e, length-append (stmts_code sc (told_facts sc (turn_facts sc fs b) t true) x b) (turn_code sc (turn_facts sc fs b) t (stmts_code sc (told_facts sc (turn_facts sc fs b) t true) x b)), length-append (stmts_code sc (told_facts sc (turn_facts sc fs b) t true) y b) (turn_code sc (turn_facts sc fs b) t (stmts_code sc (told_facts sc (turn_facts sc fs b) t true) y b)))

    stmts_same : (fs : Facts) (ss : CStmts) → length (stmts_code sc fs x ss) ≡ length (stmts_code sc fs y ss)
    stmts_same fs done = refl
    stmts_same fs (next s rest) =
        let e = stmt_same fs s in
        let r = stmts_same (facts_behind_stmt sc fs s) rest in
        omega (arith, e, r, length-append (stmt_code sc fs x s) (stmts_code sc (facts_behind_stmt sc fs s) x rest), length-append (stmt_code sc fs y s) (stmts_code sc (facts_behind_stmt sc fs s) y rest))

  body_same : (params : ℕ) (b : CBody) → length (code_of_body sc x params b) ≡ length (code_of_body sc y params b)
  body_same params (code locals stmts answer) =
      let e = stmts_same (first_facts sc params) stmts in
      omega (
        arith,
        e,
        length-append (entry_code (frame_setting sc (first_facts sc params)) (is_cleared locals stmts answer) params (length locals) (all_words sc.env.structs (map typed_of locals)) (are_calling stmts)) (stmts_code sc (first_facts sc params) x stmts ++ return_code sc (facts_behind_stmts sc (first_facts sc params) stmts) (are_calling stmts) answer),
        length-append (stmts_code sc (first_facts sc params) x stmts) (return_code sc (facts_behind_stmts sc (first_facts sc params) stmts) (are_calling stmts) answer),
        length-append (entry_code (frame_setting sc (first_facts sc params)) (is_cleared locals stmts answer) params (length locals) (all_words sc.env.structs (map typed_of locals)) (are_calling stmts)) (stmts_code sc (first_facts sc params) y stmts ++ return_code sc (facts_behind_stmts sc (first_facts sc params) stmts) (are_calling stmts) answer),
        length-append (stmts_code sc (first_facts sc params) y stmts) (return_code sc (facts_behind_stmts sc (first_facts sc params) stmts) (are_calling stmts) answer),
      )
  body_same params (asm text span words) = refl

-- the code of a function is as long wherever what it calls stands
pub function_same : (sc : Scope) (x y : Links) (f : CFunction) → length (code_of_body sc x (length f.params) f.body) ≡ length (code_of_body sc y (length f.params) f.body)
function_same sc x y f = body_same sc x y (length f.params) f.body

module _ (sc : Scope) (x : Links) (fit : LengthsFit sc) where
  abbrev st : FrameSetting
  st = frame_setting sc nothing_known

  -- code on a word of the frame
  framed : (f : ℕ → ℕ → Inst) (r i : ℕ) → length (access_code f r (frame_slot st i)) ≤ 3
  framed f r i = access_length f r (frame_slot st i)

  end_length : (d n : ℕ) → length (end_code d n) ≤ 3
  end_length d n = access_length (λ b k. Addiu d b k) d (record { code = []; base = 29; displacement = n % 2 ^ 32 })

  large_length : (b : Bool) (k : ℕ) → length (if b then J k ∷ [] else []) ≤ 1
  large_length true k = omega arith
  large_length false k = omega arith

  test_length : (d : ℕ) → length (stack_test st d) ≤ 7
  test_length d =
      let l = large_length (nat_lt 262144 st.frame) (st.exit StackOut) in
      let e = end_length d (4 * st.frame) in
      omega (arith, l, e, length-append (large_code st) (end_code d (4 * st.frame) ++ (Sltu 1 30 d ∷ Beq 1 0 1 ∷ J (st.exit StackOut) ∷ [])), length-append (end_code d (4 * st.frame)) (Sltu 1 30 d ∷ Beq 1 0 1 ∷ J (st.exit StackOut) ∷ []))

  save_length : (b : Bool) → length (save_code st b) ≤ 3
  save_length true = framed (λ b k. Sw 31 b k) 1 0
  save_length false = omega arith

  restore_length : (b : Bool) → length (restore_code st b) ≤ 3
  restore_length true = framed (λ b k. Lw 31 b k) 1 0
  restore_length false = omega arith

  params_length : (n i : ℕ) → length (params_code st n i) ≤ 3 * n
  params_length zero i = omega arith
  params_length (suc n) i =
      let a = framed (λ b k. Sw (register_of_variable i) b k) 1 (3 + i) in
      let r = params_length n (suc i) in
      omega (arith, a, r, length-append (access_code (λ b k. Sw (register_of_variable i) b k) 1 (frame_slot st (3 + i))) (params_code st n (suc i)))

  zero_length : (b : Bool) (i : ℕ) → length (zero_code st b i) ≤ 3
  zero_length true i = framed (λ b k. Sw 0 b k) 1 (3 + i)
  zero_length false i = omega arith

  zeros_length : (cleared : ℕ → Bool) (n i : ℕ) → length (zeros_code st cleared n i) ≤ 3 * n
  zeros_length cleared zero i = omega arith
  zeros_length cleared (suc n) i =
      let a = zero_length (cleared i) i in
      let r = zeros_length cleared n (suc i) in
      omega (arith, a, r, length-append (zero_code st (cleared i) i) (zeros_code st cleared n (suc i)))

  loop_length : (i : ℕ) → length (zeros_loop st i) ≤ 6
  loop_length i =
      let a = framed (λ b k. Addiu 2 b k) 2 (3 + i) in
      omega (arith, a, length-append (access_code (λ b k. Addiu 2 b k) 2 (frame_slot st (3 + i))) (Sw 0 2 0 ∷ Addiu 2 2 4 ∷ Bne 2 29 65533 ∷ []))

  locals_length : (cleared : ℕ → Bool) (n i : ℕ) → length (locals_code st cleared n i) ≤ 24
  locals_length cleared n i = elim (cases_Bool (nat_le n 8)) [
    | inl e ↦ let same = ap (λ (is : List Inst). length is) (cond-true (nat_le n 8) (zeros_code st cleared n i) (zeros_loop st i) e) in let z = zeros_length cleared n i in let few : n ≤ 8 = leb-true n 8 e in omega (arith, same, z, few)
    | inr e ↦ let same = ap (λ (is : List Inst). length is) (cond-false (nat_le n 8) (zeros_code st cleared n i) (zeros_loop st i) e) in let z = loop_length i in omega (arith, same, z)
  ]

  one_length : (b : Bool) (i : ℕ) → length (clear_one b i) ≤ 1
  one_length true i = omega arith
  one_length false i = omega arith

  clear_length : (cleared : ℕ → Bool) (n i : ℕ) → length (clear_code cleared n i) ≤ n
  clear_length cleared zero i = omega arith
  clear_length cleared (suc n) i =
      let a = one_length (cleared i) i in
      let r = clear_length cleared n (suc i) in
      omega (arith, a, r, length-append (clear_one (cleared i) i) (clear_code cleared n (suc i)))

  frame_entry_length : (cleared : ℕ → Bool) (params words : ℕ) (b : Bool) → length (frame_entry st cleared params words b) ≤ 34 + 3 * params
  frame_entry_length cleared params words b =
      let t = test_length 29 in
      let s = save_length b in
      let p = params_length params 0 in
      let l = locals_length cleared words params in
      omega (
        arith,
        t,
        s,
        p,
        l,
        length-append (stack_test st 29) (save_code st b ++ (params_code st params 0 ++ locals_code st cleared words params)),
        length-append (save_code st b) (params_code st params 0 ++ locals_code st cleared words params),
        length-append (params_code st params 0) (locals_code st cleared words params),
      )

  register_entry_length : (cleared : ℕ → Bool) (params locals : ℕ) (b : Bool) → length (register_entry st cleared params locals b) ≤ 8 + locals
  register_entry_length cleared params locals true =
      let t = test_length 1 in
      let c = clear_length cleared locals params in
      omega (arith, t, c, length-append (stack_test st 1) ((Sw 31 29 0 ∷ []) ++ clear_code cleared locals params), length-append (Sw 31 29 0 ∷ []) (clear_code cleared locals params))
  register_entry_length cleared params locals false =
      let t = test_length 1 in
      let c = clear_length cleared locals params in
      omega (arith, t, c, length-append (stack_test st 1) ([] ++ clear_code cleared locals params))

  entry_length : (cleared : ℕ → Bool) (params locals words : ℕ) (b : Bool) → length (entry_code st cleared params locals words b) ≤ 34 + 3 * params + locals
  entry_length cleared params locals words b =
      by_form st.in_registers
    where
      by_form : (c : Bool) → length (if c then register_entry st cleared params locals b else frame_entry st cleared params words b) ≤ 34 + 3 * params + locals
      by_form true = let r = register_entry_length cleared params locals b in omega (arith, r)
      by_form false = let r = frame_entry_length cleared params words b in omega (arith, r)

  register_return_length : (b : Bool) → length (register_return b) ≤ 2
  register_return_length true = omega arith
  register_return_length false = omega arith

  frame_return_length : (b : Bool) → length (frame_return st b) ≤ 7
  frame_return_length b =
      let r = restore_length b in
      let e = end_length 29 (frame_back st) in
      omega (arith, r, e, length-append (restore_code st b) (end_code 29 (frame_back st) ++ (Jr 31 ∷ [])), length-append (end_code 29 (frame_back st)) (Jr 31 ∷ []))

  exit_length : (b : Bool) → length (exit_code st b) ≤ 7
  exit_length b =
      by_form st.in_registers
    where
      by_form : (c : Bool) → length (if c then register_return b else frame_return st b) ≤ 7
      by_form true = let r = register_return_length b in omega (arith, r)
      by_form false = frame_return_length b

  body_length : (params : ℕ) (b : CBody) → length (code_of_body sc x params b) ≤ 32 * (1 + params + body_nodes (length (words_held b)) b)
  body_length params (code locals stmts answer) =
      let e = entry_length (is_cleared locals stmts answer) params (length locals) (all_words sc.env.structs (map typed_of locals)) (are_calling stmts) in
      let s = stmts_length sc x fit (first_facts sc params) stmts in
      let v = fit.value (facts_behind_stmts sc (first_facts sc params) stmts) answer 2 8 in
      let some = fit.place (first_facts sc params) answer 8 in
      let r = exit_length (are_calling stmts) in
      omega (
        arith,
        e,
        s,
        v,
        some,
        r,
        length-append (entry_code st (is_cleared locals stmts answer) params (length locals) (all_words sc.env.structs (map typed_of locals)) (are_calling stmts)) (stmts_code sc (first_facts sc params) x stmts ++ return_code sc (facts_behind_stmts sc (first_facts sc params) stmts) (are_calling stmts) answer),
        length-append (stmts_code sc (first_facts sc params) x stmts) (return_code sc (facts_behind_stmts sc (first_facts sc params) stmts) (are_calling stmts) answer),
        length-append (value_code sc (facts_behind_stmts sc (first_facts sc params) stmts) answer 2 8) (exit_code st (are_calling stmts)),
      )
  body_length params (asm text span words) =
      let t = test_length 1 in
      let m = length-map words instruction_of in
      omega (arith, t, m, length-append (stack_test st 1) (asm_code params words ++ (Jr 31 ∷ [])), length-append (asm_code params words) (Jr 31 ∷ []), length-append (arguments_code params) (map instruction_of words))

-- the code of a function has at most 32 words a node
pub function_short : (sc : Scope) (x : Links) → LengthsFit sc → (f : CFunction) → length (code_of_body sc x (length f.params) f.body) ≤ 32 * nodes_of f
function_short sc x fit f = body_length sc x fit (length f.params) f.body
