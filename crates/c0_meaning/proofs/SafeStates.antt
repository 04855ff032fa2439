-- What a unit that is well formed says of its functions and statements, and how typed states change.
use Rattle.std.proofs.Common.{◌≡◌, ℕ, zero, suc, Bool, true, false, ◌&&◌, List, [], ◌∷◌, ◌++◌, length, map, Option, Some, None, refl, sym, ap, ◌∙◌, subst}
use Rattle.std.specs.Prelude.{slice_get, is_some, if◌then◌else◌}
use Rattle.std.specs.List.{All, list_all}
use Rattle.std.specs.Option.{option_or, option_map}
use Rattle.std.proofs.lemmas.Bool.{and_parts}
use Rattle.std.proofs.lemmas.List.{map-append}
use Rattle.std.proofs.lemmas.List.Elements.{All-cons, All-head, All-tail}
use Rattle.c0_tree.specs.declared.tree.Kind.TheVariants.{Function, Primitive}
use Rattle.c0_tree.specs.declared.primitive.Scalar.{Scalar}
use Rattle.c0_tree.specs.declared.primitive.Scalar.TheVariants as scalar
use Rattle.c0_tree.specs.Primitives.{CPrimitive}
use Rattle.c0_tree.specs.Plain.{is_short, is_plain_expr, is_plain_stmt, are_plain_stmts, is_plain_body, is_plain_struct}
use Rattle.c0_tree.specs.Tree.{CName, CTy, CExpr, CStmt, CStmts, done, next, CBody, code, asm, CDecl, CFunction, CUnit}
use Rattle.c0_tree.specs.Tree as tree
use Rattle.c0_meaning.specs.Ty.{Ty, ty_of}
use Rattle.c0_meaning.specs.Env.{Env, Shape, Signature, Callee, callee_of, callee_named, env_of, typed_of, signature_of, primitive_signature, scalar_ty, first_named}
use Rattle.c0_meaning.specs.Expression.{resolved}
use Rattle.c0_meaning.specs.Judgement.{IsGiven}
use Rattle.c0_meaning.specs.Rules.{IsLvalue, IsTyped, AreTyped, a_statement}
use Rattle.c0_meaning.specs.DeclaredTypes.{type_faults, unknown_structs}
use Rattle.c0_meaning.specs.Fault.{fault, UNKNOWN_NAME}
use Rattle.c0_meaning.specs.Limits.{locals_of}
use Rattle.c0_meaning.specs.Resolved.{resolved_type}
use Rattle.c0_meaning.specs.Sound.{shapes}
use Rattle.c0_meaning.specs.Statement.{numbered_callee, stmt_resolved, stmts_resolved}
use Rattle.c0_meaning.specs.Typed.{AreKnown, IsTypedFunction}
use Rattle.c0_meaning.specs.Unit.{IsWellFormed, resolved_function, resolved_functions, resolved_body}
use Rattle.c0_meaning.proofs.FaultlessIsTyped.{nonempty}
use Rattle.c0_meaning.proofs.WellTypedUnits.{units_are_faultless}
use Rattle.c0_meaning.specs.Value.{Region, globals, heap, locals, Value, int, bool, null, at, group, Values, empty, part, count, part_count, with_part, value_with}
use Rattle.c0_meaning.specs.State.{Frame, write}
use Rattle.c0_meaning.specs.TypedState.{StoreTyping, types_of, Fits, AllFit, AreParts, PointsTo, variable_types, IsTypedFrame, store_typing, IsTypedWith}
use Rattle.c0_meaning.proofs.PartsFit.{put_parts, parts_more, joined_fit}
use Rattle.c0_meaning.proofs.SearchByName.{found_there}
use Rattle.c0_meaning.proofs.SafeExpressions.{SafeState, Stands}

-- a value of a type, at a place of which it is asked
pub record RightValue (env : Env) (e : CExpr) (t : Ty) : Type 0 where
  pub given : IsGiven env e t
  pub settled : resolved env e ≡ e
  pub plain : is_plain_expr e ≡ true

-- a place to store values of a type
pub record RightPlace (env : Env) (e : CExpr) (t : Ty) : Type 0 where
  pub left : IsLvalue env e t
  pub settled : resolved env e ≡ e
  pub plain : is_plain_expr e ≡ true

-- a statement
pub record RightStatement (env : Env) (s : CStmt) : Type 0 where
  pub typed : IsTyped (type_faults env.structs) env s
  pub settled : stmt_resolved (resolved_type env.structs) env s ≡ s
  pub plain : is_plain_stmt s ≡ true

-- statements
pub record RightStatements (env : Env) (ss : CStmts) : Type 0 where
  pub typed : AreTyped (type_faults env.structs) env ss
  pub settled : stmts_resolved (resolved_type env.structs) env ss ≡ ss
  pub plain : are_plain_stmts ss ≡ true

pub first_right : (env : Env) (s : CStmt) (rest : CStmts) → RightStatements env (next s rest) → RightStatement env s × RightStatements env rest
first_right env s rest h = by_rule h.typed h.settled h.plain
  where
    by_rule : AreTyped (type_faults env.structs) env (next s rest) → stmts_resolved (resolved_type env.structs) env (next s rest) ≡ next s rest → are_plain_stmts (next s rest) ≡ true → RightStatement env s × RightStatements env rest
    by_rule (a_statement t ts) q p =
        let r : stmt_resolved (resolved_type env.structs) env s ≡ s = cc in
        let w : stmts_resolved (resolved_type env.structs) env rest ≡ rest = cc in
        let c = and_parts (is_plain_stmt s) (are_plain_stmts rest) p in
        (record { typed = t; settled = r; plain = c.0 }, record { typed = ts; settled = w; plain = c.1 })

-- the names in a type that has no fault are those of structs
pub known : (structs : List Shape) (t : CTy) → unknown_structs structs t ≡ [] → AreKnown structs t
known structs tree.int h = tt
known structs tree.bool h = tt
known structs (tree.pointer t) h = known structs t h
known structs (tree.named x) h = by_test (is_some (first_named (λ s. s.text) x.text 0 structs)) h
  where
    by_test : (b : Bool) → (if b then [] else fault UNKNOWN_NAME x.span ∷ []) ≡ [] → b ≡ true
    by_test true e = refl
    by_test false e = nonempty e
known structs (tree.array t n) h = known structs t h

pub at_number : {A : Type 0} (P : A → Type 0) (xs : List A) (i : ℕ) (x : A) → All P xs → slice_get xs i ≡ Some x → P x
at_number P [] i x a e = cc
at_number P (y ∷ xs) zero x a e = let q : y ≡ x = cc in subst P q (All-head P y xs a)
at_number P (y ∷ xs) (suc i) x a e = at_number P xs i x (All-tail P y xs a) e

tested_at : {A : Type 0} (f : A → Bool) (xs : List A) (i : ℕ) (x : A) → list_all f xs ≡ true → slice_get xs i ≡ Some x → f x ≡ true
tested_at f [] i x a e = cc
tested_at f (y ∷ xs) zero x a e = let q : y ≡ x = cc in subst (λ z. f z ≡ true) q (and_parts (f y) (list_all f xs) a).0
tested_at f (y ∷ xs) (suc i) x a e = tested_at f xs i x (and_parts (f y) (list_all f xs) a).1 e

-- what the parts of lists of signatures are
mapped_from : {A B : Type 0} (f : A → B) (xs : List A) (i : ℕ) (y : B) → slice_get (map f xs) i ≡ Some y → (x : A) × (slice_get xs i ≡ Some x) × (f x ≡ y)
mapped_from f [] i y e = cc
mapped_from f (x ∷ xs) zero y e = let q : f x ≡ y = cc in (x, refl, q)
mapped_from f (x ∷ xs) (suc i) y e = mapped_from f xs i y e

-- what is called
pub data Calls (primitives : List CPrimitive) (u : CUnit) (c : Callee) : Type 0 where
  a_function : (f : CFunction) → c.kind ≡ Function → slice_get u.functions c.number ≡ Some f → c.params ≡ map (λ d. ty_of d.ty) f.params → c.answer ≡ ty_of f.answer → Calls primitives u c
  a_primitive : (row : CPrimitive) → c.kind ≡ Primitive → slice_get primitives c.number ≡ Some row → c.params ≡ map scalar_ty row.args → c.answer ≡ scalar_ty row.answer → Calls primitives u c

pub callee : (primitives : List CPrimitive) (u : CUnit) (ds : List CDecl) (text : List ℕ) (c : Callee) → callee_named (env_of primitives u ds) text ≡ Some c → Calls primitives u c
callee primitives u ds text c e =
    chosen (first_named (λ s. s.text) text 0 (map primitive_signature primitives)) (first_named (λ s. s.text) text 0 (map signature_of u.functions))
    (λ found q. found_there (λ s. s.text) (map primitive_signature primitives) text found.0 found.1 q) (λ found q. found_there (λ s. s.text) (map signature_of u.functions) text found.0 found.1 q) e
  where
    chosen : (a b : Option (ℕ × Signature)) → ((found : ℕ × Signature) → a ≡ Some found → slice_get (map primitive_signature primitives) found.0 ≡ Some found.1) → ((found : ℕ × Signature) → b ≡ Some found → slice_get (map signature_of u.functions) found.0 ≡ Some found.1)
        → option_or (option_map (callee_of Primitive) a) (option_map (callee_of Function) b) ≡ Some c → Calls primitives u c
    chosen (Some found) b f g q =
        let w : callee_of Primitive found ≡ c = cc in
        let r = mapped_from primitive_signature primitives found.0 found.1 (f found refl) in
        a_primitive r.0 (sym (ap (λ d. d.kind) w)) (subst (λ n. slice_get primitives n ≡ Some r.0) (ap (λ d. d.number) w) r.1)
        (sym (ap (λ s. s.params) r.2 ∙ ap (λ d. d.params) w)) (sym (ap (λ s. s.answer) r.2 ∙ ap (λ d. d.answer) w))
    chosen None (Some found) f g q =
        let w : callee_of Function found ≡ c = cc in
        let r = mapped_from signature_of u.functions found.0 found.1 (g found refl) in
        a_function r.0 (sym (ap (λ d. d.kind) w)) (subst (λ n. slice_get u.functions n ≡ Some r.0) (ap (λ d. d.number) w) r.1)
        (sym (ap (λ s. s.params) r.2 ∙ ap (λ d. d.params) w)) (sym (ap (λ s. s.answer) r.2 ∙ ap (λ d. d.answer) w))
    chosen None None f g q = cc

pub callee_is : (x : CName) (o : Option Callee) (c : Callee) → o ≡ Some c → numbered_callee x o ≡ x → (x.kind ≡ c.kind) × (x.number ≡ c.number)
callee_is x o c e q =
    let r = sym (ap (numbered_callee x) e) ∙ q in
    (sym (ap (λ n. n.kind) r), sym (ap (λ n. n.number) r))

-- values of scalar types that aren't pointers fit in every layout
abbrev pub no_layout : StoreTyping
no_layout = record { globals = []; objects = [] }

pub scalar_everywhere : (structs others : List Shape) (layout other : StoreTyping) (t : Scalar) (v : Value) → Fits structs layout (scalar_ty t) v → Fits others other (scalar_ty t) v
scalar_everywhere structs others layout other scalar.Int (int z) h = h
scalar_everywhere structs others layout other scalar.Bool (bool b) h = tt
scalar_everywhere structs others layout other scalar.Int (bool b) h = absurd h
scalar_everywhere structs others layout other scalar.Int null h = absurd h
scalar_everywhere structs others layout other scalar.Int (at l) h = absurd h
scalar_everywhere structs others layout other scalar.Int (group vs) h = absurd h
scalar_everywhere structs others layout other scalar.Bool (int z) h = absurd h
scalar_everywhere structs others layout other scalar.Bool null h = absurd h
scalar_everywhere structs others layout other scalar.Bool (at l) h = absurd h
scalar_everywhere structs others layout other scalar.Bool (group vs) h = absurd h

pub scalars_everywhere : (structs others : List Shape) (layout other : StoreTyping) (ts : List Scalar) (vs : Values) → AllFit structs layout (map scalar_ty ts) vs → AllFit others other (map scalar_ty ts) vs
scalars_everywhere structs others layout other [] empty h = tt
scalars_everywhere structs others layout other (t ∷ ts) (part v vs) h = (scalar_everywhere structs others layout other t v h.0, scalars_everywhere structs others layout other ts vs h.1)
scalars_everywhere structs others layout other [] (part v vs) h = absurd h
scalars_everywhere structs others layout other (t ∷ ts) empty h = absurd h

-- a function of a unit that is well formed
pub record IsRight (primitives : List CPrimitive) (u : CUnit) (f : CFunction) : Type 0 where
  pub typed : IsTypedFunction primitives u f
  pub first : ℕ
  pub settled : resolved_body (env_of primitives u (f.params ++ locals_of f.body)) first f.body ≡ f.body
  pub plain : is_plain_body f.body ≡ true

settled_at : (primitives : List CPrimitive) (u : CUnit) (k : ℕ) (fs : List CFunction) (i : ℕ) (f : CFunction) → resolved_functions primitives u k fs ≡ fs → slice_get fs i ≡ Some f → (n : ℕ) × (resolved_function primitives u n f ≡ f)
settled_at primitives u k [] i f q e = cc
settled_at primitives u k (g ∷ fs) zero f q e =
    let r : resolved_function primitives u k g ≡ g = cc in
    let w : g ≡ f = cc in
    (k, subst (λ h. resolved_function primitives u k h ≡ h) w r)
settled_at primitives u k (g ∷ fs) (suc i) f q e =
    let r : resolved_functions primitives u (suc k) fs ≡ fs = cc in
    settled_at primitives u (suc k) fs i f r e

fifth : (a b c d e : Bool) → (a && (b && (c && (d && e)))) ≡ true → e ≡ true
fifth true true true true e h = h
fifth false b c d e h = absurd (cc)
fifth true false c d e h = absurd (cc)
fifth true true false d e h = absurd (cc)
fifth true true true false e h = absurd (cc)

pub right_function : (primitives : List CPrimitive) (u : CUnit) (number : ℕ) (f : CFunction) → IsWellFormed primitives u → slice_get u.functions number ≡ Some f → IsRight primitives u f
right_function primitives u number f well e =
    let t = (units_are_faultless primitives u).1 well.typed in
    let s = settled_at primitives u 0 u.functions number f (ap (λ v. v.functions) well.resolved) e in
    let p4 : list_all (λ f. is_short f.params && is_plain_body f.body) u.functions ≡ true = fifth (is_short u.structs) (is_short u.globals) (is_short u.functions) (list_all is_plain_struct u.structs) _ well.plain in
    record {
      typed = at_number (IsTypedFunction primitives u) u.functions number f t.functions e;
      first = length f.params;
      settled = ap (λ g. g.body) s.1;
      plain = (and_parts (is_short f.params) (is_plain_body f.body) (tested_at (λ f. is_short f.params && is_plain_body f.body) u.functions number f p4 e)).1;
    }

-- the types of parameters and locals
pub variables_split : (f : CFunction) → variable_types f ≡ types_of (map typed_of f.params) ++ types_of (map typed_of (locals_of f.body))
variables_split f = ap types_of (map-append typed_of f.params (locals_of f.body)) ∙ map-append (λ d. d.ty) (map typed_of f.params) (map typed_of (locals_of f.body))

pub params_types : (ds : List CDecl) → map (λ d. ty_of d.ty) ds ≡ types_of (map typed_of ds)
params_types [] = refl
params_types (d ∷ ds) = ap (λ ts. ty_of d.ty ∷ ts) (params_types ds)

module _ (primitives : List CPrimitive) (u : CUnit) where
  abbrev pub env_in : CFunction → Env
  env_in f = env_of primitives u (f.params ++ locals_of f.body)

  -- in the state in which a function runs its expressions can be evaluated
  pub scene : (objects : List Ty) (gv hv : Value) (hw : ℕ) (g : Frame) (fs : List Frame) (f : CFunction) → IsTypedWith u objects (record { global_values = gv; heap_values = hv; heap_words = hw; frames = g ∷ fs }) → slice_get u.functions g.function ≡ Some f
      → SafeState (env_in f) (store_typing u objects) (record { global_values = gv; heap_values = hv; heap_words = hw; frames = g ∷ fs })
  scene objects gv hv hw g fs f typed e =
      let top = All-head (IsTypedFrame u (store_typing u objects)) g fs typed.frames in
      let same : top.function ≡ f = some_same (sym top.is ∙ e) in
      record {
        globals_are = refl;
        global_values = typed.global_values;
        heap_values = typed.heap_values;
        local_values = subst (λ h. AreParts (shapes u) (store_typing u objects) (variable_types h) g.variables) same top.variables;
      }
    where
      some_same : {a b : CFunction} → Some a ≡ Some b → a ≡ b
      some_same q = cc

  -- a store
  pub written : (objects : List Ty) (gv hv : Value) (hw : ℕ) (g : Frame) (fs : List Frame) (f : CFunction) (r : Region) (path : List ℕ) (t : Ty) (v : Value)
      → IsTypedWith u objects (record { global_values = gv; heap_values = hv; heap_words = hw; frames = g ∷ fs }) → slice_get u.functions g.function ≡ Some f
      → Stands (env_in f) (store_typing u objects) r path t → Fits (shapes u) (store_typing u objects) t v
      → IsTypedWith u objects (write (record { global_values = gv; heap_values = hv; heap_words = hw; frames = g ∷ fs }) (record { region = r; path = path }) v)
  written objects gv hv hw g fs f globals path t v typed e h k = record {
    global_values = put_parts (shapes u) (store_typing u objects) (types_of (map typed_of u.globals)) path t gv v h typed.global_values k;
    heap_values = typed.heap_values;
    frames = typed.frames;
  }
  written objects gv hv hw g fs f heap path t v typed e h k = record {
    global_values = typed.global_values;
    heap_values = put_parts (shapes u) (store_typing u objects) objects path t hv v h typed.heap_values k;
    frames = typed.frames;
  }
  written objects gv hv hw g fs f locals path t v typed e h k = record {
    global_values = typed.global_values;
    heap_values = typed.heap_values;
    frames = All-cons (IsTypedFrame u (store_typing u objects)) (record { function = g.function; variables = value_with g.variables path v }) fs
        (record { function = f; is = e; variables = put_parts (shapes u) (store_typing u objects) (variable_types f) path t g.variables v h (scene objects gv hv hw g fs f typed e).local_values k })
        (All-tail (IsTypedFrame u (store_typing u objects)) g fs typed.frames);
  }

  frames_more : (objects more : List Ty) (fs : List Frame) → All (IsTypedFrame u (store_typing u objects)) fs → All (IsTypedFrame u (store_typing u (objects ++ more))) fs
  frames_more objects more fs a k d h = let r = a k d h in record { function = r.function; is = r.is; variables = parts_more (shapes u) (store_typing u objects) more (variable_types r.function) _ r.variables }

  -- a new object
  pub objects_count : (objects : List Ty) (v : Value) (t : Ty) → AreParts (shapes u) (store_typing u objects) objects v → PointsTo (shapes u) (store_typing u (objects ++ t ∷ [])) heap (part_count v ∷ []) t
  objects_count objects (group vs) t h = (t, behind_all objects vs h, refl)
    where
      behind_all : (ts : List Ty) (vs : Values) → AllFit (shapes u) (store_typing u objects) ts vs → slice_get (ts ++ t ∷ []) (count vs) ≡ Some t
      behind_all [] empty h = refl
      behind_all (w ∷ ts) (part v vs) h = behind_all ts vs h.1
      behind_all [] (part v vs) h = absurd h
      behind_all (w ∷ ts) empty h = absurd h
  objects_count objects (int z) t h = absurd h
  objects_count objects (bool z) t h = absurd h
  objects_count objects null t h = absurd h
  objects_count objects (at l) t h = absurd h

  behind_parts : (layout : StoreTyping) (ts : List Ty) (v x : Value) (t : Ty) → AreParts (shapes u) layout ts v → Fits (shapes u) layout t x → AreParts (shapes u) layout (ts ++ t ∷ []) (with_part v x)
  behind_parts layout ts (group vs) x t h g = joined_fit (shapes u) layout ts (t ∷ []) vs (part x empty) h (g, tt)
  behind_parts layout ts (int z) x t h g = absurd h
  behind_parts layout ts (bool z) x t h g = absurd h
  behind_parts layout ts null x t h g = absurd h
  behind_parts layout ts (at l) x t h g = absurd h

  pub allocated : (objects : List Ty) (gv hv : Value) (hw n : ℕ) (fs : List Frame) (t : Ty) (x : Value) → IsTypedWith u objects (record { global_values = gv; heap_values = hv; heap_words = hw; frames = fs }) → Fits (shapes u) (store_typing u (objects ++ t ∷ [])) t x
      → IsTypedWith u (objects ++ t ∷ []) (record { global_values = gv; heap_values = with_part hv x; heap_words = n; frames = fs })
  allocated objects gv hv hw n fs t x typed h = record {
    global_values = parts_more (shapes u) (store_typing u objects) (t ∷ []) (types_of (map typed_of u.globals)) gv typed.global_values;
    heap_values = behind_parts (store_typing u (objects ++ t ∷ [])) objects hv x t (parts_more (shapes u) (store_typing u objects) (t ∷ []) objects hv typed.heap_values) h;
    frames = frames_more objects (t ∷ []) fs typed.frames;
  }
