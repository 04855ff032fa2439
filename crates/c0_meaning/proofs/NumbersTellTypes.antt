-- What the rules type is typed by numbers, where its names are resolved.
use Rattle.std.proofs.Common.{◌≡◌, ℕ, suc, true, false, ◌&&◌, List, [], ◌∷◌, ◌++◌, length, map, Option, Some, None, refl, sym, ap, ◌∙◌, subst}
use Rattle.std.specs.Prelude.{slice_get}
use Rattle.std.specs.Option.{option_or, option_map}
use Rattle.std.specs.List.{All, list_all}
use Rattle.std.proofs.lemmas.Bool.{and_parts, leb-true}
use Rattle.std.proofs.lemmas.List.Elements.{All-cons, All-nil, All-head, All-tail}
use Rattle.c0_tree.specs.declared.tree.Kind.{Kind}
use Rattle.c0_tree.specs.declared.tree.Kind.TheVariants.{Global, Local, Function, Primitive}
use Rattle.c0_tree.specs.Tree.{CName, CExpr, var, arrow, deref, CStmt, CStmts, CBody, code, asm, CFunction, CUnit}
use Rattle.c0_tree.specs.Primitives.{CPrimitive}
use Rattle.c0_tree.specs.Plain.{is_plain_expr, is_short, is_plain_stmt, are_plain_stmts, is_plain_body}
use Rattle.c0_meaning.specs.Ty.{Ty, ty_of}
use Rattle.c0_meaning.specs.Ty as ty
use Rattle.c0_meaning.specs.Env.{Env, Typed, Signature, Variable, variable_of, variable_named, Callee, callee_of, callee_named, field_named, first_named, env_of}
use Rattle.c0_meaning.specs.Words.{shape_fields}
use Rattle.c0_meaning.specs.Expression.{is_lvalue, is_local, is_local_kind, type_of, member, target, resolved, numbered_variable, numbered_field}
use Rattle.c0_meaning.specs.Judgement.{HasType, IsGiven}
use Rattle.c0_meaning.specs.Judgement as rule
use Rattle.c0_meaning.specs.Rules.{IsLvalue, AreGiven, IsTested, IsTyped, AreTyped}
use Rattle.c0_meaning.specs.Rules as stmt
use Rattle.c0_meaning.specs.Statement.{numbered_callee, stmt_resolved, stmts_resolved}
use Rattle.c0_meaning.specs.DeclaredTypes.{type_faults, unknown_structs}
use Rattle.c0_meaning.specs.Resolved.{resolved_type}
use Rattle.c0_meaning.specs.Typed.{IsTypedBody, IsTypedFunction}
use Rattle.c0_meaning.specs.Limits.{locals_of}
use Rattle.c0_meaning.specs.Unit.{resolved_body, resolved_function, resolved_functions}
use Rattle.c0_meaning.specs.Numbered.{variable_at, callee_at, field_at, is_in_frame, is_frame_place, HasNumberedType, IsNumberedGiven, IsNumberedLeft, AreNumberedGiven, IsNumberedTest, IsNumbered, AreNumbered, IsNumberedBody, NumbersTell}
use Rattle.c0_meaning.specs.Numbered as number
use Rattle.c0_meaning.proofs.SearchByName.{found_there}
use Rattle.c0_meaning.proofs.TypedIsFaultless.{typed_is_faultless}
use Rattle.c0_meaning.proofs.WellTypedUnits.{units_are_faultless, none_type}
use Rattle.c0_meaning.proofs.WellFormed.{none_in_left, type_resolved}

-- where a variable is declared
record IsDeclared (env : Env) (v : Variable) : Type 0 where
  decl : Typed
  there : variable_at env v.kind v.number ≡ Some decl
  typed : decl.ty ≡ v.ty
  framed : is_in_frame v.kind ≡ is_local_kind (Some v)

declared_in : (env : Env) (v : Variable) (a b : Option (ℕ × Typed)) → ((found : ℕ × Typed) → a ≡ Some found → slice_get env.locals found.0 ≡ Some found.1) → ((found : ℕ × Typed) → b ≡ Some found → slice_get env.globals found.0 ≡ Some found.1)
    → option_or (option_map (variable_of Local) a) (option_map (variable_of Global) b) ≡ Some v → IsDeclared env v
declared_in env v (Some found) b f g e =
    let q : variable_of Local found ≡ v = cc in
    subst (IsDeclared env) q (record { decl = found.1; there = f found refl; typed = refl; framed = refl })
declared_in env v None (Some found) f g e =
    let q : variable_of Global found ≡ v = cc in
    subst (IsDeclared env) q (record { decl = found.1; there = g found refl; typed = refl; framed = refl })
declared_in env v None None f g e = cc

declared : (env : Env) (text : List ℕ) (v : Variable) → variable_named env text ≡ Some v → IsDeclared env v
declared env text v e =
    declared_in env v (first_named (λ v. v.text) text 0 env.locals) (first_named (λ v. v.text) text 0 env.globals)
    (λ found q. found_there (λ v. v.text) env.locals text found.0 found.1 q) (λ found q. found_there (λ v. v.text) env.globals text found.0 found.1 q) e

-- where a callee is declared
record IsCallee (env : Env) (c : Callee) : Type 0 where
  signature : Signature
  there : callee_at env c.kind c.number ≡ Some signature
  params : signature.params ≡ c.params
  answer : signature.answer ≡ c.answer

callee_in : (env : Env) (c : Callee) (a b : Option (ℕ × Signature)) → ((found : ℕ × Signature) → a ≡ Some found → slice_get env.primitives found.0 ≡ Some found.1) → ((found : ℕ × Signature) → b ≡ Some found → slice_get env.functions found.0 ≡ Some found.1)
    → option_or (option_map (callee_of Primitive) a) (option_map (callee_of Function) b) ≡ Some c → IsCallee env c
callee_in env c (Some found) b f g e =
    let q : callee_of Primitive found ≡ c = cc in
    subst (IsCallee env) q (record { signature = found.1; there = f found refl; params = refl; answer = refl })
callee_in env c None (Some found) f g e =
    let q : callee_of Function found ≡ c = cc in
    subst (IsCallee env) q (record { signature = found.1; there = g found refl; params = refl; answer = refl })
callee_in env c None None f g e = cc

callee_is_there : (env : Env) (text : List ℕ) (c : Callee) → callee_named env text ≡ Some c → IsCallee env c
callee_is_there env text c e =
    callee_in env c (first_named (λ s. s.text) text 0 env.primitives) (first_named (λ s. s.text) text 0 env.functions)
    (λ found q. found_there (λ s. s.text) env.primitives text found.0 found.1 q) (λ found q. found_there (λ s. s.text) env.functions text found.0 found.1 q) e

variable_is : (x : CName) (o : Option Variable) (v : Variable) → o ≡ Some v → numbered_variable x o ≡ x → (v.kind ≡ x.kind) × (v.number ≡ x.number)
variable_is x o v e q =
    let r = sym (ap (numbered_variable x) e) ∙ q in
    (ap (λ n. n.kind) r, ap (λ n. n.number) r)

callee_is : (f : CName) (o : Option Callee) (c : Callee) → o ≡ Some c → numbered_callee f o ≡ f → (c.kind ≡ f.kind) × (c.number ≡ f.number)
callee_is f o c e q =
    let r = sym (ap (numbered_callee f) e) ∙ q in
    (ap (λ n. n.kind) r, ap (λ n. n.number) r)

field_is : (f : CName) (o : Option (ℕ × Typed)) (found : ℕ × Typed) → o ≡ Some found → numbered_field f o ≡ f → found.0 ≡ f.number
field_is f o found e q = ap (λ n. n.number) (sym (ap (numbered_field f) e) ∙ q)

module _ (env : Env) where
  at_kind : (x : CName) (v : Variable) → variable_named env x.text ≡ Some v → numbered_variable x (variable_named env x.text) ≡ x → (d : IsDeclared env v) → variable_at env x.kind x.number ≡ Some d.decl
  at_kind x v e q d =
      let p = variable_is x (variable_named env x.text) v e q in
      subst (λ (k : Kind). variable_at env k x.number ≡ Some d.decl) p.0 (subst (λ (n : ℕ). variable_at env v.kind n ≡ Some d.decl) p.1 d.there)

  variable : (x : CName) (v : Variable) → variable_named env x.text ≡ Some v → numbered_variable x (variable_named env x.text) ≡ x → HasNumberedType env (var x) v.ty
  variable x v e q =
      let d = declared env x.text v e in
      subst (HasNumberedType env (var x)) d.typed (number.a_variable (at_kind x v e q d))

  field_there : (x : List ℕ) (f : CName) (found : ℕ × Typed) (o : Option (ℕ × Typed)) → field_named env x f.text ≡ Some found → o ≡ field_named env x f.text → numbered_field f o ≡ f → field_at env x f.number ≡ Some found.1
  field_there x f found o q r n =
      subst (λ (i : ℕ). field_at env x i ≡ Some found.1) (field_is f o found (r ∙ q) n) (found_there (λ d. d.text) (shape_fields env.structs x) f.text found.0 found.1 q)

  variable_away : (x : CName) (v : Variable) → variable_named env x.text ≡ Some v → numbered_variable x (variable_named env x.text) ≡ x → is_local_kind (variable_named env x.text) ≡ false → is_in_frame x.kind ≡ false
  variable_away x v e q away =
      let p = variable_is x (variable_named env x.text) v e q in
      let d = declared env x.text v e in
      ap is_in_frame (sym p.0) ∙ (d.framed ∙ (ap is_local_kind (sym e) ∙ away))

  -- a place that isn't local by its names isn't by its kinds
  away_is : (e : CExpr) (t : Ty) → HasType env e t → is_lvalue e ≡ true → resolved env e ≡ e → is_local env e ≡ false → is_frame_place e ≡ false
  away_is _ _ (rule.a_variable {x = x} {v = v} h) pl q away = let r : numbered_variable x (variable_named env x.text) ≡ x = cc in variable_away x v h r away
  away_is _ _ (rule.a_field {e = e} {x = x} p2 h n) pl q away = let r : resolved env e ≡ e = cc in away_is e (ty.named x) h p2 r away
  away_is _ _ (rule.an_element {e = e} {t = t} {n = n} p2 h g) pl q away = let r : resolved env e ≡ e = cc in away_is e (ty.array t n) h p2 r away
  away_is (arrow s e f) _ h pl q away = refl
  away_is (deref s e) _ h pl q away = refl
  away_is _ _ _ pl q away = absurd (cc)

  by_numbers : (e : CExpr) (t : Ty) → HasType env e t → resolved env e ≡ e → is_plain_expr e ≡ true → HasNumberedType env e t
  by_numbers _ _ (rule.a_number {n = n}) q p = number.a_number (leb-true n 2147483647 p)
  by_numbers _ _ rule.a_true q p = number.a_true
  by_numbers _ _ rule.a_false q p = number.a_false
  by_numbers _ _ (rule.a_variable {x = x} {v = v} h) q p = let r : numbered_variable x (variable_named env x.text) ≡ x = cc in variable x v h r
  by_numbers _ _ (rule.a_field {e = e} {f = f} {x = x} {found = found} pl h n) q p =
      let r : resolved env e ≡ e = cc in
      let m : numbered_field f (member env (type_of env e) f.text) ≡ f = cc in
      number.a_field pl (by_numbers e (ty.named x) h r p) (field_there x f found (member env (type_of env e) f.text) n (ap (λ t. member env t f.text) (typed_is_faultless env e (ty.named x) h).1) m)
  by_numbers _ _ (rule.a_target_field {e = e} {f = f} {x = x} {found = found} h n) q p =
      let r : resolved env e ≡ e = cc in
      let m : numbered_field f (member env (target (type_of env e)) f.text) ≡ f = cc in
      number.a_target_field (by_numbers e (ty.pointer (ty.named x)) h r p) (field_there x f found (member env (target (type_of env e)) f.text) n (ap (λ t. member env (target t) f.text) (typed_is_faultless env e (ty.pointer (ty.named x)) h).1) m)
  by_numbers _ _ (rule.an_element {e = e} {i = i} {t = t} {n = n} pl h g) q p =
      let r : resolved env e ≡ e = cc in
      let m : resolved env i ≡ i = cc in
      let a = and_parts (is_plain_expr e) (is_plain_expr i) p in
      number.an_element pl (by_numbers e (ty.array t n) h r a.0) (by_numbers i ty.int g m a.1)
  by_numbers _ _ (rule.a_target {e = e} {t = t} h) q p = let r : resolved env e ≡ e = cc in number.a_target (by_numbers e (ty.pointer t) h r p)
  by_numbers _ _ (rule.an_address {e = e} {t = t} pl away h) q p = let r : resolved env e ≡ e = cc in number.an_address pl (away_is e t h pl r away) (by_numbers e t h r p)
  by_numbers _ _ (rule.a_negative {e = e} h) q p = let r : resolved env e ≡ e = cc in number.a_negative (by_numbers e ty.int h r p)
  by_numbers _ _ (rule.a_negation {e = e} h) q p = let r : resolved env e ≡ e = cc in number.a_negation (by_numbers e ty.bool h r p)
  by_numbers _ _ (rule.arithmetic {o = o} {a = a} {b = b} k h g) q p =
      let r : resolved env a ≡ a = cc in
      let m : resolved env b ≡ b = cc in
      let x = and_parts (is_plain_expr a) (is_plain_expr b) p in
      number.arithmetic k (by_numbers a ty.int h r x.0) (by_numbers b ty.int g m x.1)
  by_numbers _ _ (rule.order {o = o} {a = a} {b = b} k h g) q p =
      let r : resolved env a ≡ a = cc in
      let m : resolved env b ≡ b = cc in
      let x = and_parts (is_plain_expr a) (is_plain_expr b) p in
      number.order k (by_numbers a ty.int h r x.0) (by_numbers b ty.int g m x.1)
  by_numbers _ _ (rule.logic {o = o} {a = a} {b = b} k h g) q p =
      let r : resolved env a ≡ a = cc in
      let m : resolved env b ≡ b = cc in
      let x = and_parts (is_plain_expr a) (is_plain_expr b) p in
      number.logic k (by_numbers a ty.bool h r x.0) (by_numbers b ty.bool g m x.1)
  by_numbers _ _ (rule.equality {o = o} {a = a} {b = b} {t = t} k s h g) q p =
      let r : resolved env a ≡ a = cc in
      let m : resolved env b ≡ b = cc in
      let x = and_parts (is_plain_expr a) (is_plain_expr b) p in
      number.equality k s (by_numbers a t h r x.0) (by_numbers b t g m x.1)
  by_numbers _ _ (rule.null_left {o = o} {b = b} {t = t} k g) q p =
      let m : resolved env b ≡ b = cc in
      number.null_left k (by_numbers b (ty.pointer t) g m p)
  by_numbers _ _ (rule.null_right {o = o} {a = a} {t = t} k h) q p =
      let r : resolved env a ≡ a = cc in
      number.null_right k (by_numbers a (ty.pointer t) h r (and_parts (is_plain_expr a) true p).0)

  given : (e : CExpr) (t : Ty) → IsGiven env e t → resolved env e ≡ e → is_plain_expr e ≡ true → IsNumberedGiven env e t
  given e t (rule.a_value h) q p = number.a_value (by_numbers e t h q p)
  given _ _ rule.a_null q p = number.a_null

  left : (e : CExpr) (t : Ty) → IsLvalue env e t → resolved env e ≡ e → is_plain_expr e ≡ true → IsNumberedLeft env e t
  left e t l q p = record { place = l.place; scalar = l.scalar; typed = by_numbers e t l.typed q p }

  all_given : (es : List CExpr) (ts : List Ty) → AreGiven env es ts → map (resolved env) es ≡ es → list_all is_plain_expr es ≡ true → AreNumberedGiven env es ts
  all_given _ _ stmt.none q p = number.none
  all_given _ _ (stmt.more {e} {es} {t} {ts} h rest) q p =
      let r : resolved env e ≡ e = cc in
      let m : map (resolved env) es ≡ es = cc in
      let x = and_parts (is_plain_expr e) (list_all is_plain_expr es) p in
      number.more (given e t h r x.0) (all_given es ts rest m x.1)

  tested : (e : CExpr) (t : Ty) → IsTested env e t → resolved env e ≡ e → is_plain_expr e ≡ true → IsNumberedTest env e t
  tested e t h q p = record { value = given e t h.value q p; shallow = h.shallow }

  called : (f : CName) (c : Callee) → callee_named env f.text ≡ Some c → numbered_callee f (callee_named env f.text) ≡ f → (d : IsCallee env c) → callee_at env f.kind f.number ≡ Some d.signature
  called f c e q d =
      let p = callee_is f (callee_named env f.text) c e q in
      subst (λ (k : Kind). callee_at env k f.number ≡ Some d.signature) p.0 (subst (λ (n : ℕ). callee_at env c.kind n ≡ Some d.signature) p.1 d.there)

  mutual
    statement : (s : CStmt) → IsTyped (type_faults env.structs) env s → stmt_resolved (resolved_type env.structs) env s ≡ s → is_plain_stmt s ≡ true → IsNumbered env s
    statement _ (stmt.an_assignment {p = a} {v = v} {t = t} l g n) q p =
        let r : resolved env a ≡ a = cc in
        let m : resolved env v ≡ v = cc in
        let x = and_parts (is_plain_expr a) (is_plain_expr v) p in
        number.an_assignment (left a t l r x.0) (given v t g m x.1) n
    statement _ (stmt.a_call {p = a} {f = f} {args = args} {c = c} e l g n) q p =
        let r : resolved env a ≡ a = cc in
        let k : numbered_callee f (callee_named env f.text) ≡ f = cc in
        let m : map (resolved env) args ≡ args = cc in
        let x = and_parts (is_plain_expr a) (is_short args && list_all is_plain_expr args) p in
        let y = and_parts (is_short args) (list_all is_plain_expr args) x.1 in
        let d = callee_is_there env f.text c e in
        number.a_call (called f c e k d) (subst (IsNumberedLeft env a) (sym d.answer) (left a c.answer l r x.0)) (subst (AreNumberedGiven env args) (sym d.params) (all_given args c.params g m y.1)) n
    statement _ (stmt.an_object {ts = ts} {p = a} {t = t} l h n) q p =
        let r : resolved env a ≡ a = cc in
        let m : resolved_type env.structs t ≡ t = cc in
        number.an_object (left a (ty.pointer (ty_of t)) l r p) (none_type env.structs t ts h) (type_resolved env.structs t (none_in_left (unknown_structs env.structs t) _ h) m) n
    statement _ (stmt.a_choice {t = t} {a = a} {b = b} h k l) q p =
        let r : resolved env t ≡ t = cc in
        let m : stmts_resolved (resolved_type env.structs) env a ≡ a = cc in
        let n : stmts_resolved (resolved_type env.structs) env b ≡ b = cc in
        let x = and_parts (is_plain_expr t) _ p in
        let y = and_parts _ _ x.1 in
        let z = and_parts _ _ y.1 in
        let w = and_parts (are_plain_stmts a) (are_plain_stmts b) z.1 in
        number.a_choice (tested t ty.bool h r x.0) (statements a k m w.0) (statements b l n w.1)
    statement _ (stmt.a_loop {t = t} {b = b} h k) q p =
        let r : resolved env t ≡ t = cc in
        let m : stmts_resolved (resolved_type env.structs) env b ≡ b = cc in
        let x = and_parts (is_plain_expr t) _ p in
        let y = and_parts _ (are_plain_stmts b) x.1 in
        number.a_loop (tested t ty.bool h r x.0) (statements b k m y.1)

    statements : (ss : CStmts) → AreTyped (type_faults env.structs) env ss → stmts_resolved (resolved_type env.structs) env ss ≡ ss → are_plain_stmts ss ≡ true → AreNumbered env ss
    statements _ stmt.no_statement q p = number.no_statement
    statements _ (stmt.a_statement {s} {rest} h k) q p =
        let r : stmt_resolved (resolved_type env.structs) env s ≡ s = cc in
        let m : stmts_resolved (resolved_type env.structs) env rest ≡ rest = cc in
        let x = and_parts (is_plain_stmt s) (are_plain_stmts rest) p in
        number.a_statement (statement s h r x.0) (statements rest k m x.1)

  body : (result : Ty) (first : ℕ) (b : CBody) → IsTypedBody env result b → resolved_body env first b ≡ b → is_plain_body b ≡ true → IsNumberedBody env result b
  body result first (code locals stmts answer) h q p =
      let r : stmts_resolved (resolved_type env.structs) env stmts ≡ stmts = cc in
      let m : resolved env answer ≡ answer = cc in
      let x = and_parts (is_short locals) _ p in
      let y = and_parts _ _ x.1 in
      let z = and_parts (are_plain_stmts stmts) (is_plain_expr answer) y.1 in
      (statements stmts h.0 r z.0, tested answer result h.1 m z.1)
  body result first (asm text span words) h q p = tt

module _ (primitives : List CPrimitive) (u : CUnit) where
  functions : (k : ℕ) (fs : List CFunction) → All (IsTypedFunction primitives u) fs → resolved_functions primitives u k fs ≡ fs → list_all (λ f. is_short f.params && is_plain_body f.body) fs ≡ true
      → All (λ f. IsNumberedBody (env_of primitives u (f.params ++ locals_of f.body)) (ty_of f.answer) f.body) fs
  functions k [] h q p = All-nil (λ (f : CFunction). IsNumberedBody (env_of primitives u (f.params ++ locals_of f.body)) (ty_of f.answer) f.body)
  functions k (f ∷ rest) h q p =
      let r : resolved_function primitives u k f ≡ f = cc in
      let m : resolved_functions primitives u (suc k) rest ≡ rest = cc in
      let x = and_parts (is_short f.params && is_plain_body f.body) _ p in
      let y = and_parts (is_short f.params) (is_plain_body f.body) x.0 in
      let t = All-head (IsTypedFunction primitives u) f rest h in
      All-cons (λ (f : CFunction). IsNumberedBody (env_of primitives u (f.params ++ locals_of f.body)) (ty_of f.answer) f.body) f rest
      (body (env_of primitives u (f.params ++ locals_of f.body)) (ty_of f.answer) (length f.params) f.body t.body (ap (λ (g : CFunction). g.body) r) y.1)
      (functions (suc k) rest (All-tail (IsTypedFunction primitives u) f rest h) m x.1)

pub numbers_tell : NumbersTell
numbers_tell primitives u w =
    let p1 = and_parts (is_short u.structs) _ w.plain in
    let p2 = and_parts (is_short u.globals) _ p1.1 in
    let p3 = and_parts (is_short u.functions) _ p2.1 in
    let p4 = and_parts _ (list_all (λ f. is_short f.params && is_plain_body f.body) u.functions) p3.1 in
    functions primitives u 0 u.functions ((units_are_faultless primitives u).1 w.typed).functions (ap (λ (v : CUnit). v.functions) w.resolved) p4.1
