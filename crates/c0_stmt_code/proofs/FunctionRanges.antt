-- The instructions of the code of functions are in range: part by part.
use Rattle.std.specs.Prelude.{map, if◌then◌else◌, nat_le, nat_lt, IsTrue, All, Option, Some, None}
use Rattle.std.specs.List.{All as EachOf}
use Rattle.std.proofs.Common.{◌≡◌, inl, inr, ℕ, zero, suc, ◌+◌, ◌*◌, ◌/◌, ◌%◌, ◌^◌, ◌<◌, ◌≤◌, Bool, true, false, List, [], ◌∷◌, ◌++◌, length, refl, subst, sym, arith}
use Rattle.std.proofs.lemmas.Bool.{cases_Bool, cond-true, cond-false, ltb-true}
use Rattle.std.proofs.lemmas.List.Elements.{All-append, All-cons, All-head, All-nil, All-tail}
use Rattle.mips_table.specs.declared.inst.Inst.{Inst}
use Rattle.mips_table.specs.declared.inst.Inst.TheVariants.{Addiu, Addu, Beq, Bne, J, Jal, Jr, Lui, Lw, Ori, Sltu, Sw}
use Rattle.mips_table.specs.Encoding.{InRange}
use Rattle.c0_tree.specs.declared.tree.Kind.{Kind}
use Rattle.c0_tree.specs.declared.tree.Kind.TheVariants.{Unresolved, Struct, Field, Global, Local, Function, Primitive}
use Rattle.c0_tree.specs.Size.{need}
use Rattle.c0_tree.specs.Tree.{CExpr, CStmt, assign, call, new, choice, loop, CStmts, done, next, CBody, code, asm}
use Rattle.c0_meaning.specs.Ty.{ty_of}
use Rattle.c0_meaning.specs.Env.{typed_of}
use Rattle.c0_meaning.specs.Words.{words, all_words}
use Rattle.c0_meaning.specs.Operators.{StackOut}
use Rattle.c0_meaning.specs.Asm.{are_allowed_words}
use Rattle.c0_asm_body.specs.Code.{argument_code, arguments_code, asm_code, asm_body_code}
use Rattle.c0_asm_body.specs.Laws.{AreEncoded}
use Rattle.c0_typed.specs.Leaf.{are_calling}
use Rattle.c0_expr_code.specs.Laws.{CodesInRange, HasNearExits}
use Rattle.c0_expr_code.specs.declared.facts.Facts.{Facts}
use Rattle.c0_expr_code.specs.Facts.{facts_called, nothing_known, overwritten, renewed}
use Rattle.c0_expr_code.specs.Scope.{Scope}
use Rattle.c0_expr_code.specs.FrameSetting.{FrameSetting, frame_back, frame_setting}
use Rattle.c0_expr_code.specs.Code.{AddressingMode, is_near, low, high, register_of_variable, constant_code, access_code, store_code, operand_code, operand_register, made, value_code}
use Rattle.c0_expr_code.specs.Test.{test_code}
use Rattle.c0_stmt_code.specs.Live.{is_cleared}
use Rattle.c0_stmt_code.specs.Code.{Links, callee_index, skip, stored_code, answer_code, assigned_code, args_code, otherwise, otherwise_at, back, turn_code, stmt_code, stmts_code, frame_slot, end_code, large_code, stack_test, save_code, restore_code, params_code, zeros_code, zeros_loop, locals_code, clear_code, frame_entry, frame_return, register_entry, register_return, entry_code, exit_code, return_code, body_code as code_of_body, zero_code, clear_one, facts_behind_stmt, facts_behind_stmts, first_facts, told_facts, turn_facts}
use Rattle.c0_stmt_code.proofs.RegisterVariables.{is_small}
use Rattle.c0_stmt_code.specs.Emit.{IsEmittable, AreEmittable, IsEmittableBody}
use Rattle.c0_stmt_code.specs.Ranges.{AreNear}

abbrev Fine : List Inst → Type 0
Fine is = All InRange is

none : Fine []
none = All-nil InRange

front : (i : Inst) (is : List Inst) → InRange i → Fine is → Fine (i ∷ is)
front i is h g = All-cons InRange i is h g

both : (is js : List Inst) → Fine is → Fine js → Fine (is ++ js)
both is js h g = All-append InRange is js h g

either : (b : Bool) (is js : List Inst) → Fine is → Fine js → Fine (if b then is else js)
either true is js h g = h
either false is js h g = g

constants : (d n : ℕ) → d < 32 → Fine (constant_code d n)
constants d n h = elim (cases_Bool (nat_lt n (2 ^ 16))) [
  | inl e ↦
      let l = ltb-true n (2 ^ 16) e in
      subst (λ (is : List Inst). Fine is) (sym (cond-true (nat_lt n (2 ^ 16)) (Ori d 0 n ∷ []) (if is_near n then Addiu d 0 (low n) ∷ [] else Lui d (n / 2 ^ 16 % 2 ^ 16) ∷ Ori d d (n % 2 ^ 16) ∷ []) e)) (front (Ori d 0 n) [] (h, omega arith, l) none)
  | inr e ↦
      subst (λ (is : List Inst). Fine is) (sym (cond-false (nat_lt n (2 ^ 16)) (Ori d 0 n ∷ []) (if is_near n then Addiu d 0 (low n) ∷ [] else Lui d (n / 2 ^ 16 % 2 ^ 16) ∷ Ori d d (n % 2 ^ 16) ∷ []) e))
      (either (is_near n) (Addiu d 0 (low n) ∷ []) (Lui d (n / 2 ^ 16 % 2 ^ 16) ∷ Ori d d (n % 2 ^ 16) ∷ []) (front (Addiu d 0 (low n)) [] (h, omega arith, omega arith) none)
      (front (Lui d (n / 2 ^ 16 % 2 ^ 16)) (Ori d d (n % 2 ^ 16) ∷ []) (h, omega arith) (front (Ori d d (n % 2 ^ 16)) [] (h, h, omega arith) none)))
]

-- a place without code of its own
accesses : (f : ℕ → ℕ → Inst) (r : ℕ) (x : AddressingMode) → r < 32 → x.base < 32 → Fine x.code → ((b k : ℕ) → b < 32 → k < 2 ^ 16 → InRange (f b k)) → Fine (access_code f r x)
accesses f r x h b c i =
    both x.code (if is_near x.displacement then f x.base (low x.displacement) ∷ [] else Lui 1 (high x.displacement) ∷ Addu r x.base 1 ∷ f r (low x.displacement) ∷ []) c
    (either (is_near x.displacement) (f x.base (low x.displacement) ∷ []) (Lui 1 (high x.displacement) ∷ Addu r x.base 1 ∷ f r (low x.displacement) ∷ [])
    (front (f x.base (low x.displacement)) [] (i x.base (low x.displacement) b (omega arith)) none)
    (front (Lui 1 (high x.displacement)) (Addu r x.base 1 ∷ f r (low x.displacement) ∷ []) (omega arith, omega arith)
    (front (Addu r x.base 1) (f r (low x.displacement) ∷ []) (h, b, omega arith) (front (f r (low x.displacement)) [] (i r (low x.displacement) h (omega arith)) none))))

module _ (sc : Scope) (x : Links) (codes : CodesInRange) (exits : HasNearExits sc) (near : AreNear x) where
  stored : (fs : Facts) (q r : ℕ) (p : CExpr) (o : Option ℕ) → q < 32 → r + need p ≤ 32 → ((y : ℕ) → o ≡ Some y → y < 32) → Fine (stored_code q r o (made sc fs p).place)
  stored fs q r p (Some y) h room s = front (Addu y q 0) [] (s y refl, h, omega arith) none
  stored fs q r p None h room s = codes.store sc exits fs p q r h room

  answer : (fs : Facts) (p : CExpr) → need p ≤ 12 → Fine (answer_code sc fs p)
  answer fs p h = stored fs 2 8 p (made sc fs p).register (omega arith) (omega (arith, h)) (λ y e. is_small sc fs p y e)

  assigned : (fs : Facts) (p v : CExpr) (o : Option ℕ) → need p ≤ 11 → need v ≤ 12 → ((y : ℕ) → o ≡ Some y → y < 32) → Fine (assigned_code o (made sc fs p) (made sc fs v))
  assigned fs p v (Some y) h g s = codes.value sc exits fs v y 8 (s y refl) (omega (arith, g))
  assigned fs p v None h g s =
      both (operand_code (made sc fs v) 8) (store_code (operand_register (made sc fs v) 8) 9 ((made sc fs p).place 9)) (codes.operand sc exits fs v 8 (omega (arith, g)))
      (codes.store sc exits fs p (operand_register (made sc fs v) 8) 9 (codes.register sc exits fs v 8 (omega (arith, g))) (omega (arith, h)))

  args : (fs : Facts) (es : List CExpr) (i : ℕ) → EachOf (λ e. need e ≤ 12) es → Fine (args_code sc fs es i)
  args fs [] i h = none
  args fs (e ∷ es) i h =
      both (value_code sc fs e (register_of_variable i) 8) (args_code sc (overwritten fs i) es (suc i)) (codes.value sc exits fs e (register_of_variable i) 8 (omega arith) (let r = All-head (λ e. need e ≤ 12) e es h in omega (arith, r))) (args (overwritten fs i) es (suc i) (All-tail (λ e. need e ≤ 12) e es h))

  callees : (k : Kind) (n : ℕ) → callee_index x k n < 2 ^ 26
  callees Unresolved n = omega arith
  callees Struct n = omega arith
  callees Field n = omega arith
  callees Global n = omega arith
  callees Local n = omega arith
  callees Function n = near.function n
  callees Primitive n = near.primitive n

  others : (b : CStmts) (is : List Inst) → Fine is → Fine (otherwise b is)
  others done is h = none
  others (next s rest) is h = front (skip (length is)) is (omega arith, omega arith, omega arith) h

  mutual
    statement : (fs : Facts) (t : CStmt) → IsEmittable t → Fine (stmt_code sc fs x t)
    statement fs (assign s p v) h =
        let hp = h.0 in
        let hv = h.1 in
        assigned fs p v (made sc fs p).register hp hv (λ y e. is_small sc fs p y e)
    statement fs (call s p cs f as_) h =
        both (args_code sc fs as_ 0) (Jal (callee_index x f.kind f.number) ∷ answer_code sc (facts_called fs) p) (args fs as_ 0 h.1) (front (Jal (callee_index x f.kind f.number)) (answer_code sc (facts_called fs) p) (callees f.kind f.number) (answer (facts_called fs) p h.0))
    statement fs (new s p t ts) h =
        both (constant_code 2 (words sc.env.structs (ty_of t) % 2 ^ 32)) (Jal x.new_object ∷ answer_code sc (renewed fs) p) (constants 2 (words sc.env.structs (ty_of t) % 2 ^ 32) (omega arith)) (front (Jal x.new_object) (answer_code sc (renewed fs) p) near.new_object (answer (renewed fs) p h))
    statement fs (choice s t a b) h =
        let r = h.0 in
        both (test_code sc fs t false ((length (stmts_code sc (told_facts sc fs t true) x a) + otherwise_at b) % 2 ^ 16) 8) (stmts_code sc (told_facts sc fs t true) x a ++ otherwise b (stmts_code sc (told_facts sc fs t false) x b)) (codes.test sc exits fs t false ((length (stmts_code sc (told_facts sc fs t true) x a) + otherwise_at b) % 2 ^ 16) 8 (omega arith) (omega (arith, r)))
        (both (stmts_code sc (told_facts sc fs t true) x a) (otherwise b (stmts_code sc (told_facts sc fs t false) x b)) (statements (told_facts sc fs t true) a h.1) (others b (stmts_code sc (told_facts sc fs t false) x b) (statements (told_facts sc fs t false) b h.2)))
    statement fs (loop s t b) h =
        let r = h.0 in
        front (skip (length (stmts_code sc (told_facts sc (turn_facts sc fs b) t true) x b))) (stmts_code sc (told_facts sc (turn_facts sc fs b) t true) x b ++ turn_code sc (turn_facts sc fs b) t (stmts_code sc (told_facts sc (turn_facts sc fs b) t true) x b)) (omega arith, omega arith, omega arith)
        (both (stmts_code sc (told_facts sc (turn_facts sc fs b) t true) x b) (turn_code sc (turn_facts sc fs b) t (stmts_code sc (told_facts sc (turn_facts sc fs b) t true) x b)) (statements (told_facts sc (turn_facts sc fs b) t true) b h.1) (codes.test sc exits (turn_facts sc fs b) t true (back sc (turn_facts sc fs b) t (stmts_code sc (told_facts sc (turn_facts sc fs b) t true) x b)) 8 (omega arith) (omega (arith, r))))

    statements : (fs : Facts) (ss : CStmts) → AreEmittable ss → Fine (stmts_code sc fs x ss)
    statements fs done h = none
    statements fs (next s rest) h = both (stmt_code sc fs x s) (stmts_code sc (facts_behind_stmt sc fs s) x rest) (statement fs s h.0) (statements (facts_behind_stmt sc fs s) rest h.1)

  abbrev st : FrameSetting
  st = frame_setting sc nothing_known

  -- code on a word of the frame
  framed : (f : ℕ → ℕ → Inst) (r i : ℕ) → r < 32 → ((b k : ℕ) → b < 32 → k < 2 ^ 16 → InRange (f b k)) → Fine (access_code f r (frame_slot st i))
  framed f r i h g = accesses f r (frame_slot st i) h (omega arith) none g

  ends : (d n : ℕ) → d < 32 → Fine (end_code d n)
  ends d n h = accesses (λ b k. Addiu d b k) d (record { code = []; base = 29; displacement = n % 2 ^ 32 }) h (omega arith) none (λ b k l m. (h, l, m))

  tests_stack : (d : ℕ) → d < 32 → Fine (stack_test st d)
  tests_stack d h =
      both (large_code st) (end_code d (4 * st.frame) ++ (Sltu 1 30 d ∷ Beq 1 0 1 ∷ J (st.exit StackOut) ∷ [])) (either (nat_lt 262144 st.frame) (J (st.exit StackOut) ∷ []) [] (front (J (st.exit StackOut)) [] (exits StackOut) none) none)
      (both (end_code d (4 * st.frame)) (Sltu 1 30 d ∷ Beq 1 0 1 ∷ J (st.exit StackOut) ∷ []) (ends d (4 * st.frame) h)
      (front (Sltu 1 30 d) (Beq 1 0 1 ∷ J (st.exit StackOut) ∷ []) (omega arith, omega arith, h) (front (Beq 1 0 1) (J (st.exit StackOut) ∷ []) (omega arith, omega arith, omega arith) (front (J (st.exit StackOut)) [] (exits StackOut) none))))

  saves : (b : Bool) → Fine (save_code st b)
  saves true = framed (λ b k. Sw 31 b k) 1 0 (omega arith) (λ b k l m. (omega arith, l, m))
  saves false = none

  restores : (b : Bool) → Fine (restore_code st b)
  restores true = framed (λ b k. Lw 31 b k) 1 0 (omega arith) (λ b k l m. (omega arith, l, m))
  restores false = none

  params_stored : (n i : ℕ) → Fine (params_code st n i)
  params_stored zero i = none
  params_stored (suc n) i =
      both (access_code (λ b k. Sw (register_of_variable i) b k) 1 (frame_slot st (3 + i))) (params_code st n (suc i)) (framed (λ b k. Sw (register_of_variable i) b k) 1 (3 + i) (omega arith) (λ b k l m. (omega arith, l, m))) (params_stored n (suc i))

  zero_stored : (b : Bool) (i : ℕ) → Fine (zero_code st b i)
  zero_stored b i = either b (access_code (λ b k. Sw 0 b k) 1 (frame_slot st (3 + i))) [] (framed (λ b k. Sw 0 b k) 1 (3 + i) (omega arith) (λ b k l m. (omega arith, l, m))) none

  zeros_stored : (cleared : ℕ → Bool) (n i : ℕ) → Fine (zeros_code st cleared n i)
  zeros_stored cleared zero i = none
  zeros_stored cleared (suc n) i = both (zero_code st (cleared i) i) (zeros_code st cleared n (suc i)) (zero_stored (cleared i) i) (zeros_stored cleared n (suc i))

  zeros_looped : (i : ℕ) → Fine (zeros_loop st i)
  zeros_looped i =
      both (access_code (λ b k. Addiu 2 b k) 2 (frame_slot st (3 + i))) (Sw 0 2 0 ∷ Addiu 2 2 4 ∷ Bne 2 29 65533 ∷ []) (framed (λ b k. Addiu 2 b k) 2 (3 + i) (omega arith) (λ b k l m. (omega arith, l, m)))
      (front (Sw 0 2 0) (Addiu 2 2 4 ∷ Bne 2 29 65533 ∷ []) (omega arith, omega arith, omega arith) (front (Addiu 2 2 4) (Bne 2 29 65533 ∷ []) (omega arith, omega arith, omega arith) (front (Bne 2 29 65533) [] (omega arith, omega arith, omega arith) none)))

  clears : (cleared : ℕ → Bool) (n i : ℕ) → Fine (clear_code cleared n i)
  clears cleared zero i = none
  clears cleared (suc n) i = both (clear_one (cleared i) i) (clear_code cleared n (suc i)) (either (cleared i) (Addu (register_of_variable i) 0 0 ∷ []) [] (front (Addu (register_of_variable i) 0 0) [] (omega arith, omega arith, omega arith) none) none) (clears cleared n (suc i))

  frame_begins : (cleared : ℕ → Bool) (params words : ℕ) (b : Bool) → Fine (frame_entry st cleared params words b)
  frame_begins cleared params words b =
      both (stack_test st 29) (save_code st b ++ (params_code st params 0 ++ locals_code st cleared words params)) (tests_stack 29 (omega arith))
      (both (save_code st b) (params_code st params 0 ++ locals_code st cleared words params) (saves b)
      (both (params_code st params 0) (locals_code st cleared words params) (params_stored params 0) (either (nat_le words 8) (zeros_code st cleared words params) (zeros_loop st params) (zeros_stored cleared words params) (zeros_looped params))))

  register_saves : (b : Bool) → Fine (if b then Sw 31 29 0 ∷ [] else [])
  register_saves b = either b (Sw 31 29 0 ∷ []) [] (front (Sw 31 29 0) [] (omega arith, omega arith, omega arith) none) none

  register_begins : (cleared : ℕ → Bool) (params locals : ℕ) (b : Bool) → Fine (register_entry st cleared params locals b)
  register_begins cleared params locals b =
      both (stack_test st 1) ((if b then Sw 31 29 0 ∷ [] else []) ++ clear_code cleared locals params) (tests_stack 1 (omega arith)) (both (if b then Sw 31 29 0 ∷ [] else []) (clear_code cleared locals params) (register_saves b) (clears cleared locals params))

  returns_by : Fine (Jr 31 ∷ [])
  returns_by = front (Jr 31) [] (omega arith) none

  begins : (cleared : ℕ → Bool) (params locals words : ℕ) (b : Bool) → Fine (entry_code st cleared params locals words b)
  begins cleared params locals words b =
      either st.in_registers (register_entry st cleared params locals b) (frame_entry st cleared params words b) (register_begins cleared params locals b) (frame_begins cleared params words b)

  leaves : (b : Bool) → Fine (exit_code st b)
  leaves b =
      either st.in_registers (register_return b) (frame_return st b)
      (both (if b then Lw 31 29 0 ∷ [] else []) (Jr 31 ∷ []) (either b (Lw 31 29 0 ∷ []) [] (front (Lw 31 29 0) [] (omega arith, omega arith, omega arith) none) none) returns_by)
      (both (restore_code st b) (end_code 29 (frame_back st) ++ (Jr 31 ∷ [])) (restores b) (both (end_code 29 (frame_back st)) (Jr 31 ∷ []) (ends 29 (frame_back st) (omega arith)) returns_by))

  argument_fine : (count i : ℕ) → i < 4 → InRange (argument_code count i)
  argument_fine count i h = (omega (arith, h), from_which (nat_lt i count), omega arith)
    where
      from_which : (b : Bool) → (if b then 20 + i else 0) < 32
      from_which true = omega (arith, h)
      from_which false = omega arith

  arguments_fine : (count : ℕ) → Fine (arguments_code count)
  arguments_fine count =
      front (Addu 2 0 0) (Addu 3 0 0 ∷ argument_code count 0 ∷ argument_code count 1 ∷ argument_code count 2 ∷ argument_code count 3 ∷ []) (omega arith, omega arith, omega arith)
      (front (Addu 3 0 0) (argument_code count 0 ∷ argument_code count 1 ∷ argument_code count 2 ∷ argument_code count 3 ∷ []) (omega arith, omega arith, omega arith)
      (front (argument_code count 0) (argument_code count 1 ∷ argument_code count 2 ∷ argument_code count 3 ∷ []) (argument_fine count 0 (omega arith))
      (front (argument_code count 1) (argument_code count 2 ∷ argument_code count 3 ∷ []) (argument_fine count 1 (omega arith))
      (front (argument_code count 2) (argument_code count 3 ∷ []) (argument_fine count 2 (omega arith)) (front (argument_code count 3) [] (argument_fine count 3 (omega arith)) none)))))

  module _ (encoded : (ws : List ℕ) → IsTrue (are_allowed_words ws) → AreEncoded ws) where
    -- the code of a body
    pub body_fine : (params : ℕ) (b : CBody) → IsEmittableBody params b → Fine (code_of_body sc x params b)
    body_fine params (code locals stmts ans) h =
        let r = h.1 in
        both (entry_code st (is_cleared locals stmts ans) params (length locals) (all_words sc.env.structs (map typed_of locals)) (are_calling stmts)) (stmts_code sc (first_facts sc params) x stmts ++ return_code sc (facts_behind_stmts sc (first_facts sc params) stmts) (are_calling stmts) ans)
        (begins (is_cleared locals stmts ans) params (length locals) (all_words sc.env.structs (map typed_of locals)) (are_calling stmts))
        (both (stmts_code sc (first_facts sc params) x stmts) (return_code sc (facts_behind_stmts sc (first_facts sc params) stmts) (are_calling stmts) ans) (statements (first_facts sc params) stmts h.0)
        (both (value_code sc (facts_behind_stmts sc (first_facts sc params) stmts) ans 2 8) (exit_code st (are_calling stmts)) (codes.value sc exits (facts_behind_stmts sc (first_facts sc params) stmts) ans 2 8 (omega arith) (omega (arith, r))) (leaves (are_calling stmts))))
    body_fine params (asm text span ws) h =
        both (stack_test st 1) (asm_code params ws ++ (Jr 31 ∷ [])) (tests_stack 1 (omega arith))
        (both (asm_code params ws) (Jr 31 ∷ []) (both (arguments_code params) (asm_body_code ws) (arguments_fine params) (encoded ws h.1).range) returns_by)
