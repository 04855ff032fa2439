-- A unit is typed by the rules exactly where no fault stands in it.
use Rattle.std.proofs.Common.{◌≡◌, ℕ, zero, suc, Bool, true, false, ◌||◌, cond, ltb, is_some, IsTrue, List, [], ◌∷◌, ◌++◌, length, map, Option, Some, refl, ap, ◌∙◌, subst, arith}
use Rattle.std.proofs.lemmas.Bool.{cond-true, cond-false, ltb-false, le-ltb, or_from, false_from_ne_true, both_ways}
use Rattle.std.proofs.lemmas.List.Elements.{All-cons, All-nil, All-head, All-tail}
use Rattle.std.proofs.lemmas.List.Folds.{list_any-append}
use Rattle.std.proofs.lemmas.Slice.Eq.{bytes_eq-Decides}
use Rattle.std.specs.Str.{bytes_eq}
use Rattle.std.specs.Prelude.{slice_get}
use Rattle.std.specs.List.{All}
use Rattle.c0_tree.specs.declared.tree.Span.{Span}
use Rattle.c0_tree.specs.Tree.{CTy, int, bool, pointer, named, array, CName, CDecl, CStruct, CBody, code, asm, CFunction, CUnit}
use Rattle.c0_tree.specs.Primitives.{CPrimitive}
use Rattle.c0_meaning.specs.Ty.{ty_of}
use Rattle.c0_meaning.specs.Ty as ty
use Rattle.c0_meaning.specs.Env.{Env, Shape, first_named, shape_of, typed_of, env_of}
use Rattle.c0_meaning.specs.Fault.{Fault, fault, UNKNOWN_NAME, NAME_TWICE, WRONG_TYPE, STRUCT_HOLDS_ITSELF, TYPE_TOO_LARGE, EMPTY_ARRAY, TOO_MANY_PARAMETERS, TOO_MANY_NODES, UNIT_TOO_LARGE, GLOBALS_TOO_LARGE}
use Rattle.c0_meaning.specs.Words.{holds, words, all_words}
use Rattle.c0_meaning.specs.DeclaredTypes.{MAX_TYPE_WORDS, fault_if, unknown_structs, has_empty_array, is_too_large, type_faults, declared_faults, may_pass, pass_fault, pass_faults}
use Rattle.c0_meaning.specs.Names.{is_among, twice_faults, unit_names, struct_name_faults, unit_name_faults, decl_name_faults}
use Rattle.c0_meaning.specs.Limits.{MAX_FUNCTION_NODES, MAX_UNIT_NODES, MAX_GLOBAL_WORDS, is_asm, locals_of, nodes_of, all_nodes, max_parameters, whole_span}
use Rattle.c0_meaning.specs.Statement.{stmts_faults}
use Rattle.c0_meaning.specs.Unit.{struct_faults, structs_faults, signature_faults, faults_in, body_faults, functions_faults, unit_faults}
use Rattle.c0_meaning.specs.Typed.{AreKnown, IsDeclarable, AreSetOnce, IsTypedStruct, IsTypedSignature, IsTypedBody, IsTypedFunction, IsTypedUnit, UnitsAreFaultless}
use Rattle.c0_meaning.proofs.StructHolding.{holds_as_tested}
use Rattle.c0_meaning.proofs.WellFormed.{none_in_left, none_in_right, nothing_wrong, among_parts, not_twice, no_or}
use Rattle.c0_meaning.proofs.AskedTypes.{tested_is_faultless}
use Rattle.c0_meaning.proofs.TypedStatements.{statements_are_faultless}

-- two lists without elements
join_none : {A : Type 0} (xs ys : List A) → xs ≡ [] → ys ≡ [] → xs ++ ys ≡ []
join_none xs ys p q = ap (λ zs. zs ++ ys) p ∙ q

pub nothing_said : (wrong : Bool) (number : ℕ) (span : Span) → wrong ≡ false → fault_if wrong number span ≡ []
nothing_said wrong number span e = cond-false wrong (fault number span ∷ []) [] e

said_if_not : (right : Bool) (f : Fault) → cond right [] (f ∷ []) ≡ [] → right ≡ true
said_if_not true f h = refl
said_if_not false f h = cc

-- names in types
known_none : (structs : List Shape) (t : CTy) → AreKnown structs t → unknown_structs structs t ≡ []
known_none structs int k = refl
known_none structs bool k = refl
known_none structs (pointer t) k = known_none structs t k
known_none structs (named x) k = cond-true (is_some (first_named (λ s. s.text) x.text 0 structs)) [] (fault UNKNOWN_NAME x.span ∷ []) k
known_none structs (array t n) k = known_none structs t k

none_known : (structs : List Shape) (t : CTy) → unknown_structs structs t ≡ [] → AreKnown structs t
none_known structs int h = tt
none_known structs bool h = tt
none_known structs (pointer t) h = none_known structs t h
none_known structs (named x) h = said_if_not (is_some (first_named (λ s. s.text) x.text 0 structs)) (fault UNKNOWN_NAME x.span) h
none_known structs (array t n) h = none_known structs t h

-- declared types
type_none : (structs : List Shape) (t : CTy) (span : Span) → IsDeclarable structs t → type_faults structs t span ≡ []
type_none structs t span d =
    join_none _ _ (known_none structs t d.known)
    (join_none _ _ (nothing_said _ EMPTY_ARRAY span d.full) (nothing_said _ TYPE_TOO_LARGE span (le-ltb MAX_TYPE_WORDS (words structs (ty_of t)) d.small)))

pub none_type : (structs : List Shape) (t : CTy) (span : Span) → type_faults structs t span ≡ [] → IsDeclarable structs t
none_type structs t span h =
    let after = none_in_right (unknown_structs structs t) _ h in
    record {
      known = none_known structs t (none_in_left (unknown_structs structs t) _ h);
      full = nothing_wrong _ EMPTY_ARRAY span (none_in_left (fault_if (has_empty_array t) EMPTY_ARRAY span) _ after);
      small = ltb-false MAX_TYPE_WORDS (words structs (ty_of t)) (nothing_wrong _ TYPE_TOO_LARGE span (none_in_right (fault_if (has_empty_array t) EMPTY_ARRAY span) _ after));
    }

decls_none : (structs : List Shape) (decls : List CDecl) → All (λ d. IsDeclarable structs d.ty) decls → declared_faults structs decls ≡ []
decls_none structs [] a = refl
decls_none structs (d ∷ rest) a =
    join_none _ _ (type_none structs d.ty d.ty_span (All-head (λ e. IsDeclarable structs e.ty) d rest a)) (decls_none structs rest (All-tail (λ e. IsDeclarable structs e.ty) d rest a))

none_decls : (structs : List Shape) (decls : List CDecl) → declared_faults structs decls ≡ [] → All (λ d. IsDeclarable structs d.ty) decls
none_decls structs [] h = All-nil (λ (d : CDecl). IsDeclarable structs d.ty)
none_decls structs (d ∷ rest) h =
    All-cons (λ (e : CDecl). IsDeclarable structs e.ty) d rest
    (none_type structs d.ty d.ty_span (none_in_left (type_faults structs d.ty d.ty_span) (declared_faults structs rest) h))
    (none_decls structs rest (none_in_right (type_faults structs d.ty d.ty_span) (declared_faults structs rest) h))

passes_none : (in_asm : Bool) (decls : List CDecl) → All (λ d. IsTrue (may_pass in_asm (ty_of d.ty))) decls → pass_faults in_asm decls ≡ []
passes_none in_asm [] a = refl
passes_none in_asm (d ∷ rest) a =
    join_none _ _ (cond-true (may_pass in_asm (ty_of d.ty)) [] (fault WRONG_TYPE d.ty_span ∷ []) (All-head (λ e. IsTrue (may_pass in_asm (ty_of e.ty))) d rest a))
    (passes_none in_asm rest (All-tail (λ e. IsTrue (may_pass in_asm (ty_of e.ty))) d rest a))

none_passes : (in_asm : Bool) (decls : List CDecl) → pass_faults in_asm decls ≡ [] → All (λ d. IsTrue (may_pass in_asm (ty_of d.ty))) decls
none_passes in_asm [] h = All-nil (λ (d : CDecl). IsTrue (may_pass in_asm (ty_of d.ty)))
none_passes in_asm (d ∷ rest) h =
    All-cons (λ (e : CDecl). IsTrue (may_pass in_asm (ty_of e.ty))) d rest
    (said_if_not (may_pass in_asm (ty_of d.ty)) (fault WRONG_TYPE d.ty_span) (none_in_left (pass_fault in_asm d.ty d.ty_span) (pass_faults in_asm rest) h))
    (none_passes in_asm rest (none_in_right (pass_fault in_asm d.ty d.ty_span) (pass_faults in_asm rest) h))

-- names
some_same : (x y : List ℕ) → ◌≡◌ {A = Option (List ℕ)} (Some x) (Some y) → x ≡ y
some_same x y h = cc

differ : (x y : List ℕ) → (x ≡ y → ⊥) → bytes_eq x y ≡ false
differ x y h = false_from_ne_true (bytes_eq x y) (λ e. h ((bytes_eq-Decides x y).0 e))

once_none : (before : List (List ℕ)) (names : List CName) → AreSetOnce before (map (λ x. x.text) names) → twice_faults before names ≡ []
once_none before [] o = refl
once_none before (x ∷ rest) o =
    join_none _ _ (cond-false (is_among before x.text) (fault NAME_TWICE x.span ∷ []) [] (o.new 0 x.text refl))
    (once_none (before ++ x.text ∷ []) rest
    (record {
      new = λ i y e. list_any-append (λ t. bytes_eq t y) before (x.text ∷ [])
          ∙ or_from (is_among before y) (bytes_eq x.text y || false) (o.new (suc i) y e)
          (or_from (bytes_eq x.text y) false (differ x.text y (λ same. let clash : 0 ≡ suc i = o.apart 0 (suc i) y (ap Some same) e in absurd (omega arith))) refl);
      apart = λ i j y e f. let g : suc i ≡ suc j = o.apart (suc i) (suc j) y e f in omega arith;
    }))

none_once : (before : List (List ℕ)) (names : List CName) → twice_faults before names ≡ [] → AreSetOnce before (map (λ x. x.text) names)
none_once before [] h = record { new = λ i x e. cc; apart = λ i j x e f. cc }
none_once before (x ∷ rest) h =
    let later : AreSetOnce (before ++ x.text ∷ []) (map (λ y. y.text) rest) = none_once (before ++ x.text ∷ []) rest (none_in_right (cond (is_among before x.text) (fault NAME_TWICE x.span ∷ []) []) _ h) in
    record { new = new_at later; apart = apart_at later }
  where
    new_at : AreSetOnce (before ++ x.text ∷ []) (map (λ y. y.text) rest) → (i : ℕ) (y : List ℕ) → slice_get (x.text ∷ map (λ z. z.text) rest) i ≡ Some y → is_among before y ≡ false
    new_at later zero y e = subst (λ (z : List ℕ). is_among before z ≡ false) (some_same x.text y e) (not_twice (is_among before x.text) x.span (none_in_left (cond (is_among before x.text) (fault NAME_TWICE x.span ∷ []) []) _ h))
    new_at later (suc i) y e = (among_parts before (x.text ∷ []) y (later.new i y e)).0

    other : AreSetOnce (before ++ x.text ∷ []) (map (λ y. y.text) rest) → (i : ℕ) (y : List ℕ) → x.text ≡ y → slice_get (map (λ z. z.text) rest) i ≡ Some y → ⊥
    other later i y same e = both_ways (bytes_eq x.text y) (no_or _ (among_parts before (x.text ∷ []) y (later.new i y e)).1) ((bytes_eq-Decides x.text y).1 same)

    apart_at : AreSetOnce (before ++ x.text ∷ []) (map (λ y. y.text) rest) → (i j : ℕ) (y : List ℕ) → slice_get (x.text ∷ map (λ z. z.text) rest) i ≡ Some y → slice_get (x.text ∷ map (λ z. z.text) rest) j ≡ Some y → i ≡ j
    apart_at later zero zero y e f = refl
    apart_at later zero (suc j) y e f = absurd (other later j y (some_same x.text y e) f)
    apart_at later (suc i) zero y e f = absurd (other later i y (some_same x.text y f) e)
    apart_at later (suc i) (suc j) y e f = ap suc (later.apart i j y e f)

-- structs
struct_none : (structs : List Shape) (s : CStruct) → IsTypedStruct structs s → struct_faults structs s ≡ []
struct_none structs s t =
    join_none _ _ (nothing_said _ STRUCT_HOLDS_ITSELF s.name.span (false_from_ne_true (holds structs s.name.text s.name.text) (λ h. t.loose ((holds_as_tested structs s.name.text s.name.text).0 h))))
    (join_none _ _ (nothing_said _ TYPE_TOO_LARGE s.name.span (le-ltb MAX_TYPE_WORDS (words structs (ty.named s.name.text)) t.small))
    (join_none _ _ (once_none [] (map (λ d. d.name) s.fields) t.apart) (decls_none structs s.fields t.fields)))

none_struct : (structs : List Shape) (s : CStruct) → struct_faults structs s ≡ [] → IsTypedStruct structs s
none_struct structs s h =
    let a = none_in_right (fault_if (holds structs s.name.text s.name.text) STRUCT_HOLDS_ITSELF s.name.span) _ h in
    let b = none_in_right (fault_if (is_too_large structs (ty.named s.name.text)) TYPE_TOO_LARGE s.name.span) _ a in
    let e : holds structs s.name.text s.name.text ≡ false = nothing_wrong _ STRUCT_HOLDS_ITSELF s.name.span (none_in_left (fault_if (holds structs s.name.text s.name.text) STRUCT_HOLDS_ITSELF s.name.span) _ h) in
    record {
      loose = λ it. both_ways (holds structs s.name.text s.name.text) e ((holds_as_tested structs s.name.text s.name.text).1 it);
      small = ltb-false MAX_TYPE_WORDS (words structs (ty.named s.name.text)) (nothing_wrong _ TYPE_TOO_LARGE s.name.span (none_in_left (fault_if (is_too_large structs (ty.named s.name.text)) TYPE_TOO_LARGE s.name.span) _ a));
      apart = none_once [] (map (λ d. d.name) s.fields) (none_in_left (decl_name_faults s.fields) _ b);
      fields = none_decls structs s.fields (none_in_right (decl_name_faults s.fields) _ b);
    }

structs_none : (structs : List Shape) (rest : List CStruct) → All (IsTypedStruct structs) rest → structs_faults structs rest ≡ []
structs_none structs [] a = refl
structs_none structs (s ∷ rest) a = join_none _ _ (struct_none structs s (All-head (IsTypedStruct structs) s rest a)) (structs_none structs rest (All-tail (IsTypedStruct structs) s rest a))

none_structs : (structs : List Shape) (rest : List CStruct) → structs_faults structs rest ≡ [] → All (IsTypedStruct structs) rest
none_structs structs [] h = All-nil (IsTypedStruct structs)
none_structs structs (s ∷ rest) h =
    All-cons (IsTypedStruct structs) s rest (none_struct structs s (none_in_left (struct_faults structs s) (structs_faults structs rest) h))
    (none_structs structs rest (none_in_right (struct_faults structs s) (structs_faults structs rest) h))

-- functions
signature_none : (structs : List Shape) (f : CFunction) → IsTypedSignature structs f → signature_faults structs f ≡ []
signature_none structs f t =
    join_none _ _ (type_none structs f.answer f.answer_span t.answer)
    (join_none _ _ (cond-true (may_pass (is_asm f.body) (ty_of f.answer)) [] (fault WRONG_TYPE f.answer_span ∷ []) t.answer_passes)
    (join_none _ _ (decls_none structs f.params t.params)
    (join_none _ _ (passes_none (is_asm f.body) f.params t.params_pass)
    (join_none _ _ (decls_none structs (locals_of f.body) t.locals)
    (join_none _ _ (once_none [] (map (λ d. d.name) (f.params ++ locals_of f.body)) t.apart)
    (join_none _ _ (nothing_said _ TOO_MANY_PARAMETERS f.name.span (le-ltb (max_parameters (is_asm f.body)) (length f.params) t.few))
    (nothing_said _ TOO_MANY_NODES f.name.span (le-ltb MAX_FUNCTION_NODES (nodes_of f) t.nodes))))))))

none_signature : (structs : List Shape) (f : CFunction) → signature_faults structs f ≡ [] → IsTypedSignature structs f
none_signature structs f h =
    let h1 = none_in_right (type_faults structs f.answer f.answer_span) _ h in
    let h2 = none_in_right (pass_fault (is_asm f.body) f.answer f.answer_span) _ h1 in
    let h3 = none_in_right (declared_faults structs f.params) _ h2 in
    let h4 = none_in_right (pass_faults (is_asm f.body) f.params) _ h3 in
    let h5 = none_in_right (declared_faults structs (locals_of f.body)) _ h4 in
    let h6 = none_in_right (decl_name_faults (f.params ++ locals_of f.body)) _ h5 in
    record {
      answer = none_type structs f.answer f.answer_span (none_in_left (type_faults structs f.answer f.answer_span) _ h);
      answer_passes = said_if_not (may_pass (is_asm f.body) (ty_of f.answer)) (fault WRONG_TYPE f.answer_span) (none_in_left (pass_fault (is_asm f.body) f.answer f.answer_span) _ h1);
      params = none_decls structs f.params (none_in_left (declared_faults structs f.params) _ h2);
      params_pass = none_passes (is_asm f.body) f.params (none_in_left (pass_faults (is_asm f.body) f.params) _ h3);
      locals = none_decls structs (locals_of f.body) (none_in_left (declared_faults structs (locals_of f.body)) _ h4);
      apart = none_once [] (map (λ d. d.name) (f.params ++ locals_of f.body)) (none_in_left (decl_name_faults (f.params ++ locals_of f.body)) _ h5);
      few = ltb-false (max_parameters (is_asm f.body)) (length f.params) (nothing_wrong _ TOO_MANY_PARAMETERS f.name.span (none_in_left (fault_if (ltb (max_parameters (is_asm f.body)) (length f.params)) TOO_MANY_PARAMETERS f.name.span) _ h6));
      nodes = ltb-false MAX_FUNCTION_NODES (nodes_of f) (nothing_wrong _ TOO_MANY_NODES f.name.span (none_in_right (fault_if (ltb (max_parameters (is_asm f.body)) (length f.params)) TOO_MANY_PARAMETERS f.name.span) _ h6));
    }

body_none : (env : Env) (result : ty.Ty) (body : CBody) → IsTypedBody env result body → faults_in env result body ≡ []
body_none env result (code locals stmts answer) t =
    join_none _ _ ((statements_are_faultless (type_faults env.structs) env stmts).0 t.0) ((tested_is_faultless env result answer).0 t.1)
body_none env result (asm text span words) t = refl

none_body : (env : Env) (result : ty.Ty) (body : CBody) → faults_in env result body ≡ [] → IsTypedBody env result body
none_body env result (code locals stmts answer) h = (
  (statements_are_faultless (type_faults env.structs) env stmts).1 (none_in_left (stmts_faults (type_faults env.structs) env stmts) _ h),
  (tested_is_faultless env result answer).1 (none_in_right (stmts_faults (type_faults env.structs) env stmts) _ h),
)
none_body env result (asm text span words) h = tt

functions_none : (primitives : List CPrimitive) (u : CUnit) (functions : List CFunction) → All (IsTypedFunction primitives u) functions → functions_faults primitives u functions ≡ []
functions_none primitives u [] a = refl
functions_none primitives u (f ∷ rest) a =
    let t = All-head (IsTypedFunction primitives u) f rest a in
    join_none _ _ (join_none _ _ (signature_none (map shape_of u.structs) f t.signature) (body_none (env_of primitives u (f.params ++ locals_of f.body)) (ty_of f.answer) f.body t.body))
    (functions_none primitives u rest (All-tail (IsTypedFunction primitives u) f rest a))

none_functions : (primitives : List CPrimitive) (u : CUnit) (functions : List CFunction) → functions_faults primitives u functions ≡ [] → All (IsTypedFunction primitives u) functions
none_functions primitives u [] h = All-nil (IsTypedFunction primitives u)
none_functions primitives u (f ∷ rest) h =
    let here = none_in_left (signature_faults (map shape_of u.structs) f ++ body_faults primitives u f) (functions_faults primitives u rest) h in
    All-cons (IsTypedFunction primitives u) f rest
    (record {
      signature = none_signature (map shape_of u.structs) f (none_in_left (signature_faults (map shape_of u.structs) f) (body_faults primitives u f) here);
      body = none_body (env_of primitives u (f.params ++ locals_of f.body)) (ty_of f.answer) f.body (none_in_right (signature_faults (map shape_of u.structs) f) (body_faults primitives u f) here);
    })
    (none_functions primitives u rest (none_in_right (signature_faults (map shape_of u.structs) f ++ body_faults primitives u f) (functions_faults primitives u rest) h))

-- units
unit_none : (primitives : List CPrimitive) (u : CUnit) → IsTypedUnit primitives u → unit_faults primitives u ≡ []
unit_none primitives u t =
    join_none _ _ (once_none [] (map (λ s. s.name) u.structs) t.struct_names)
    (join_none _ _ (structs_none (map shape_of u.structs) u.structs t.structs)
    (join_none _ _ (once_none (map (λ p. p.name) primitives) (unit_names u.globals u.functions) t.names)
    (join_none _ _ (decls_none (map shape_of u.structs) u.globals t.globals)
    (join_none _ _ (functions_none primitives u u.functions t.functions)
    (join_none _ _ (nothing_said _ UNIT_TOO_LARGE (whole_span u.length) (le-ltb MAX_UNIT_NODES (all_nodes u.functions) t.nodes))
    (nothing_said _ GLOBALS_TOO_LARGE (whole_span u.length) (le-ltb MAX_GLOBAL_WORDS (all_words (map shape_of u.structs) (map typed_of u.globals)) t.words)))))))

none_unit : (primitives : List CPrimitive) (u : CUnit) → unit_faults primitives u ≡ [] → IsTypedUnit primitives u
none_unit primitives u h =
    let h1 = none_in_right (struct_name_faults u.structs) _ h in
    let h2 = none_in_right (structs_faults (map shape_of u.structs) u.structs) _ h1 in
    let h3 = none_in_right (unit_name_faults primitives u.globals u.functions) _ h2 in
    let h4 = none_in_right (declared_faults (map shape_of u.structs) u.globals) _ h3 in
    let h5 = none_in_right (functions_faults primitives u u.functions) _ h4 in
    let large : Bool = ltb MAX_UNIT_NODES (all_nodes u.functions) in
    record {
      struct_names = none_once [] (map (λ s. s.name) u.structs) (none_in_left (struct_name_faults u.structs) _ h);
      structs = none_structs (map shape_of u.structs) u.structs (none_in_left (structs_faults (map shape_of u.structs) u.structs) _ h1);
      names = none_once (map (λ p. p.name) primitives) (unit_names u.globals u.functions) (none_in_left (unit_name_faults primitives u.globals u.functions) _ h2);
      globals = none_decls (map shape_of u.structs) u.globals (none_in_left (declared_faults (map shape_of u.structs) u.globals) _ h3);
      functions = none_functions primitives u u.functions (none_in_left (functions_faults primitives u u.functions) _ h4);
      nodes = ltb-false MAX_UNIT_NODES (all_nodes u.functions) (nothing_wrong large UNIT_TOO_LARGE (whole_span u.length) (none_in_left (fault_if large UNIT_TOO_LARGE (whole_span u.length)) _ h5));
      words = ltb-false MAX_GLOBAL_WORDS (all_words (map shape_of u.structs) (map typed_of u.globals)) (nothing_wrong _ GLOBALS_TOO_LARGE (whole_span u.length) (none_in_right (fault_if large UNIT_TOO_LARGE (whole_span u.length)) _ h5));
    }

pub units_are_faultless : UnitsAreFaultless
units_are_faultless primitives u = (unit_none primitives u, none_unit primitives u)
