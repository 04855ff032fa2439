-- A well formed unit has structs and functions of few words.
use Rattle.std.proofs.Common.{◌≡◌, ℕ, zero, suc, ◌+◌, ◌<◌, ◌≤◌, Bool, true, false, ◌||◌, cond, ltb, is_some, List, [], ◌∷◌, ◌++◌, length, map, Option, Some, None, refl, sym, ap, ◌∙◌, subst, arith, get_or}
use Rattle.std.proofs.lemmas.Bool.{cond-true, cond-false, ltb-false, ltb-true, or_parts, and_parts}
use Rattle.std.proofs.lemmas.List.Elements.{All-cons, All-nil}
use Rattle.std.proofs.lemmas.List.Folds.{list_any-append}
use Rattle.std.proofs.lemmas.Slice.Eq.{bytes_eq-Decides}
use Rattle.std.specs.Str.{bytes_eq}
use Rattle.std.specs.List.{All, list_all}
use Rattle.std.specs.Prelude.{◌^◌}
use Rattle.c0_tree.specs.Plain.{is_nonempty, is_short, is_plain_struct}
use Rattle.c0_tree.specs.declared.tree.Span.{Span}
use Rattle.c0_tree.specs.declared.tree.Kind.{Kind}
use Rattle.c0_tree.specs.declared.tree.Kind.TheVariants.{Struct, Field, Global, Local}
use Rattle.c0_tree.specs.Tree.{CTy, int, bool, pointer, named, array, CName, CDecl, CStruct, CExpr, CStmts, CBody, code, asm, CFunction, CUnit}
use Rattle.c0_tree.specs.Size.{body_nodes}
use Rattle.c0_tree.specs.Primitives.{CPrimitive}
use Rattle.c0_meaning.specs.Ty.{Ty, ty_of}
use Rattle.c0_meaning.specs.Ty as ty
use Rattle.c0_meaning.specs.Env.{Env, Shape, first_named, fields_of, shape_of, typed_of, env_of}
use Rattle.c0_meaning.specs.Fault.{fault, NAME_TWICE, STRUCT_HOLDS_ITSELF, TYPE_TOO_LARGE, EMPTY_ARRAY, TOO_MANY_PARAMETERS, TOO_MANY_NODES}
use Rattle.c0_meaning.specs.Words.{shape_fields, holds, words}
use Rattle.c0_meaning.specs.DeclaredTypes.{MAX_TYPE_WORDS, fault_if, unknown_structs, has_empty_array, is_too_large, type_faults, declared_faults, pass_fault, pass_faults}
use Rattle.c0_meaning.specs.Names.{is_among, twice_faults, struct_name_faults, unit_name_faults, decl_name_faults}
use Rattle.c0_meaning.specs.Limits.{MAX_FUNCTION_NODES, is_asm, locals_of, words_held, nodes_of, max_parameters}
use Rattle.c0_meaning.specs.Resolved.{looked_up, resolved_type, resolved_decls, resolved_structs, IsResolved}
use Rattle.c0_meaning.specs.Sizes.{UnitsAreSized}
use Rattle.c0_meaning.specs.Sound.{IsSized, IsSizedStruct, AreSized, IsSizedFunction}
use Rattle.c0_meaning.specs.Unit.{struct_faults, structs_faults, signature_faults, body_faults, functions_faults, resolved_body, resolved_functions, IsWellFormed}

-- a joined list without elements has parts without elements
pub none_in_left : {A : Type 0} (xs ys : List A) → xs ++ ys ≡ [] → xs ≡ []
none_in_left [] ys h = refl
none_in_left (x ∷ xs) ys h = cc

pub none_in_right : {A : Type 0} (xs ys : List A) → xs ++ ys ≡ [] → ys ≡ []
none_in_right [] ys h = h
none_in_right (x ∷ xs) ys h = cc

-- what is not a fault isn't so
pub nothing_wrong : (wrong : Bool) (number : ℕ) (span : Span) → fault_if wrong number span ≡ [] → wrong ≡ false
nothing_wrong false number span h = refl
nothing_wrong true number span h = cc

head_same : {A : Type 0} (x y : A) (xs ys : List A) → x ∷ xs ≡ y ∷ ys → x ≡ y
head_same x y xs ys h = cc

tail_same : {A : Type 0} (x y : A) (xs ys : List A) → x ∷ xs ≡ y ∷ ys → xs ≡ ys
tail_same x y xs ys h = cc

pointer_same : (t u : CTy) → pointer t ≡ pointer u → t ≡ u
pointer_same t u h = cc

array_same : (t u : CTy) (n : ℕ) → array t n ≡ array u n → t ≡ u
array_same t u n h = cc

named_same : (x y : CName) → named x ≡ named y → x ≡ y
named_same x y h = cc

name_resolved : (structs : List Shape) (x : CName) (o : Option (ℕ × Shape)) → first_named (λ s. s.text) x.text 0 structs ≡ o →
    (if_known : cond (is_some o) [] (fault 20 x.span ∷ []) ≡ []) → looked_up Struct o x ≡ x → (x.kind ≡ Struct) × ((s : Shape) × (first_named (λ s. s.text) x.text 0 structs ≡ Some (x.number, s)))
name_resolved structs x None e known r = cc
name_resolved structs x (Some found) e known r =
    (sym (ap (λ (y : CName). y.kind) r), (found.1, e ∙ ap (λ (n : ℕ). Some (n, found.1)) (ap (λ (y : CName). y.number) r)))

-- a type that resolving leaves as it is, whose structs are defined, is resolved
pub type_resolved : (structs : List Shape) (t : CTy) → unknown_structs structs t ≡ [] → resolved_type structs t ≡ t → IsResolved structs t
type_resolved structs int k r = tt
type_resolved structs bool k r = tt
type_resolved structs (pointer t) k r = type_resolved structs t k (pointer_same _ _ r)
type_resolved structs (named x) k r = name_resolved structs x (first_named (λ s. s.text) x.text 0 structs) refl k (named_same _ _ r)
type_resolved structs (array t n) k r = type_resolved structs t k (array_same _ _ n r)

-- a declared type without faults that resolving leaves as it is has few words
pub type_sized : (structs : List Shape) (t : CTy) (span : Span) → type_faults structs t span ≡ [] → resolved_type structs t ≡ t → IsSized structs t
type_sized structs t span h r =
    let after = none_in_right (unknown_structs structs t) _ h in
    record {
      resolved = type_resolved structs t (none_in_left (unknown_structs structs t) _ h) r;
      small = ltb-false MAX_TYPE_WORDS (words structs (ty_of t)) (nothing_wrong _ TYPE_TOO_LARGE span (none_in_right (fault_if (has_empty_array t) EMPTY_ARRAY span) _ after));
    }

-- so has each declaration
pub decls_sized : (structs : List Shape) (kind : Kind) (k : ℕ) (decls : List CDecl) → declared_faults structs decls ≡ [] → resolved_decls structs kind k decls ≡ decls → All (λ d. IsSized structs d.ty) decls
decls_sized structs kind k [] h r = All-nil (λ (d : CDecl). IsSized structs d.ty)
decls_sized structs kind k (d ∷ rest) h r =
    All-cons (λ (d : CDecl). IsSized structs d.ty) d rest
    (type_sized structs d.ty d.ty_span (none_in_left (type_faults structs d.ty d.ty_span) (declared_faults structs rest) h)
    (ap (λ (e : CDecl). e.ty) (head_same _ _ _ _ r)))
    (decls_sized structs kind (suc k) rest (none_in_right (type_faults structs d.ty d.ty_span) (declared_faults structs rest) h) (tail_same _ _ _ _ r))

-- a text that is not in a joined list is in none of its parts
pub among_parts : (xs ys : List (List ℕ)) (x : List ℕ) → is_among (xs ++ ys) x ≡ false → (is_among xs x ≡ false) × (is_among ys x ≡ false)
among_parts xs ys x h = or_parts (is_among xs x) (is_among ys x) (sym (list_any-append (λ t. bytes_eq t x) xs ys) ∙ h)

pub not_twice : (b : Bool) (span : Span) → cond b (fault NAME_TWICE span ∷ []) [] ≡ [] → b ≡ false
not_twice false span h = refl
not_twice true span h = cc

-- a name of a list without a fault isn't set before
not_before : (before : List (List ℕ)) (structs : List CStruct) (i : ℕ) (d : CStruct) → twice_faults before (map (λ s. s.name) structs) ≡ [] → i < length structs → is_among before (get_or structs i d).name.text ≡ false
not_before before [] i d h below = absurd (omega arith)
not_before before (s ∷ rest) zero d h below = not_twice (is_among before s.name.text) s.name.span (none_in_left (cond (is_among before s.name.text) (fault NAME_TWICE s.name.span ∷ []) []) _ h)
not_before before (s ∷ rest) (suc i) d h below =
    (among_parts before (s.name.text ∷ []) (get_or rest i d).name.text
    (not_before (before ++ s.name.text ∷ []) rest i d (none_in_right (cond (is_among before s.name.text) (fault NAME_TWICE s.name.span ∷ []) []) _ h) (omega arith))).0

pub no_or : (b : Bool) → (b || false) ≡ false → b ≡ false
no_or true h = h
no_or false h = h

-- where names are set once, the search for a struct's name ends at it
first_of_name : (before : List (List ℕ)) (structs : List CStruct) (k i : ℕ) (d : CStruct) → twice_faults before (map (λ s. s.name) structs) ≡ [] → i < length structs →
    fields_of (first_named (λ s. s.text) (get_or structs i d).name.text k (map shape_of structs)) ≡ map typed_of (get_or structs i d).fields
first_of_name before [] k i d h below = absurd (omega arith)
first_of_name before (s ∷ rest) k zero d h below =
    ap fields_of (cond-true (bytes_eq s.name.text s.name.text) (Some (k, shape_of s)) (first_named (λ r. r.text) s.name.text (suc k) (map shape_of rest)) ((bytes_eq-Decides s.name.text s.name.text).1 refl))
first_of_name before (s ∷ rest) k (suc i) d h below =
    let later : twice_faults (before ++ s.name.text ∷ []) (map (λ r. r.name) rest) ≡ [] = none_in_right (cond (is_among before s.name.text) (fault NAME_TWICE s.name.span ∷ []) []) _ h in
    let apart : bytes_eq s.name.text (get_or rest i d).name.text ≡ false =
    no_or _ ((among_parts before (s.name.text ∷ []) (get_or rest i d).name.text (not_before (before ++ s.name.text ∷ []) rest i d later (omega arith))).1) in
    ap fields_of (cond-false (bytes_eq s.name.text (get_or rest i d).name.text) (Some (k, shape_of s)) (first_named (λ r. r.text) (get_or rest i d).name.text (suc k) (map shape_of rest)) apart)
    ∙ first_of_name (before ++ s.name.text ∷ []) rest (suc k) i d later (omega arith)

-- a struct without faults that resolving leaves as it is, and the first of its name, is sized
struct_sized : (structs : List Shape) (k : ℕ) (s : CStruct) → struct_faults structs s ≡ [] → resolved_decls structs Field 0 s.fields ≡ s.fields → shape_fields structs s.name.text ≡ map typed_of s.fields → IsSizedStruct structs s
struct_sized structs k s h r first =
    let a = none_in_right (fault_if (holds structs s.name.text s.name.text) STRUCT_HOLDS_ITSELF s.name.span) _ h in
    let b = none_in_right (fault_if (is_too_large structs (ty.named s.name.text)) TYPE_TOO_LARGE s.name.span) _ a in
    record {
      first = first;
      loose = nothing_wrong _ STRUCT_HOLDS_ITSELF s.name.span (none_in_left (fault_if (holds structs s.name.text s.name.text) STRUCT_HOLDS_ITSELF s.name.span) _ h);
      small = ltb-false MAX_TYPE_WORDS (words structs (ty.named s.name.text)) (nothing_wrong _ TYPE_TOO_LARGE s.name.span (none_in_left (fault_if (is_too_large structs (ty.named s.name.text)) TYPE_TOO_LARGE s.name.span) _ a));
      fields = decls_sized structs Field 0 s.fields (none_in_right (decl_name_faults s.fields) _ b) r;
    }

-- each struct of a list is sized, where each is the first of its name
structs_sized : (structs : List Shape) (k : ℕ) (rest : List CStruct) → structs_faults structs rest ≡ [] → resolved_structs structs k rest ≡ rest →
    ((i : ℕ) (d : CStruct) → i < length rest → shape_fields structs (get_or rest i d).name.text ≡ map typed_of (get_or rest i d).fields) → All (IsSizedStruct structs) rest
structs_sized structs k [] h r first = All-nil (IsSizedStruct structs)
structs_sized structs k (s ∷ rest) h r first =
    All-cons (IsSizedStruct structs) s rest
    (struct_sized structs k s (none_in_left (struct_faults structs s) (structs_faults structs rest) h) (ap (λ (t : CStruct). t.fields) (head_same _ _ _ _ r)) (first 0 s (omega arith)))
    (structs_sized structs (suc k) rest (none_in_right (struct_faults structs s) (structs_faults structs rest) h) (tail_same _ _ _ _ r) (λ i d below. first (suc i) d (omega arith)))

-- the structs of a well formed unit are sized
pub well_formed_sized : (primitives : List CPrimitive) (u : CUnit) → IsWellFormed primitives u → AreSized u.structs
well_formed_sized primitives u w =
    let after = none_in_right (struct_name_faults u.structs) _ w.typed in
    structs_sized (map shape_of u.structs) 0 u.structs (none_in_left (structs_faults (map shape_of u.structs) u.structs) _ after) (ap (λ (v : CUnit). v.structs) w.resolved)
    (λ i d below. first_of_name [] u.structs 0 i d (none_in_left (struct_name_faults u.structs) _ w.typed) below)

code_same : (locals other : List CDecl) (stmts stmts' : CStmts) (answer answer' : CExpr) → code locals stmts answer ≡ code other stmts' answer' → locals ≡ other
code_same locals other stmts stmts' answer answer' h = cc

locals_resolved : (env : Env) (first : ℕ) (body : CBody) → resolved_body env first body ≡ body → resolved_decls env.structs Local first (locals_of body) ≡ locals_of body
locals_resolved env first (code locals stmts answer) r = code_same _ _ _ _ _ _ r
locals_resolved env first (asm text span words) r = refl

few_locals : (p : ℕ) (body : CBody) (words : ℕ) → 1 + p + body_nodes words body ≤ MAX_FUNCTION_NODES → p + length (locals_of body) ≤ MAX_FUNCTION_NODES
few_locals p (code locals stmts answer) words h = omega arith
few_locals p (asm text span ws) words h = omega arith

-- a function without faults that resolving leaves as it is is sized
function_sized : (structs : List Shape) (env : Env) (f : CFunction) → env.structs ≡ structs → signature_faults structs f ≡ [] → resolved_decls structs Local 0 f.params ≡ f.params → resolved_body env (length f.params) f.body ≡ f.body → IsSizedFunction structs f
function_sized structs env f same h p b =
    let h1 = none_in_right (type_faults structs f.answer f.answer_span) _ h in
    let h2 = none_in_right (pass_fault (is_asm f.body) f.answer f.answer_span) _ h1 in
    let h3 = none_in_right (declared_faults structs f.params) _ h2 in
    let h4 = none_in_right (pass_faults (is_asm f.body) f.params) _ h3 in
    let h5 = none_in_right (declared_faults structs (locals_of f.body)) _ h4 in
    let h6 = none_in_right (decl_name_faults (f.params ++ locals_of f.body)) _ h5 in
    let nodes = none_in_right (fault_if (ltb (max_parameters (is_asm f.body)) (length f.params)) TOO_MANY_PARAMETERS f.name.span) _ h6 in
    record {
      params = decls_sized structs Local 0 f.params (none_in_left (declared_faults structs f.params) _ h2) p;
      locals = decls_sized structs Local (length f.params) (locals_of f.body) (none_in_left (declared_faults structs (locals_of f.body)) _ h4)
          (subst (λ (ss : List Shape). resolved_decls ss Local (length f.params) (locals_of f.body) ≡ locals_of f.body) same (locals_resolved env (length f.params) f.body b));
      few = few_locals (length f.params) f.body (length (words_held f.body)) (ltb-false MAX_FUNCTION_NODES (nodes_of f) (nothing_wrong _ TOO_MANY_NODES f.name.span nodes));
    }

functions_sized : (primitives : List CPrimitive) (u : CUnit) (k : ℕ) (functions : List CFunction) → functions_faults primitives u functions ≡ [] → resolved_functions primitives u k functions ≡ functions → All (IsSizedFunction (map shape_of u.structs)) functions
functions_sized primitives u k [] h r = All-nil (IsSizedFunction (map shape_of u.structs))
functions_sized primitives u k (f ∷ rest) h r =
    let same = head_same _ _ _ _ r in
    All-cons (IsSizedFunction (map shape_of u.structs)) f rest
    (function_sized (map shape_of u.structs) (env_of primitives u (f.params ++ locals_of f.body)) f refl
    (none_in_left (signature_faults (map shape_of u.structs) f) (body_faults primitives u f) (none_in_left (signature_faults (map shape_of u.structs) f ++ body_faults primitives u f) (functions_faults primitives u rest) h))
    (ap (λ (g : CFunction). g.params) same) (ap (λ (g : CFunction). g.body) same))
    (functions_sized primitives u (suc k) rest (none_in_right (signature_faults (map shape_of u.structs) f ++ body_faults primitives u f) (functions_faults primitives u rest) h) (tail_same _ _ _ _ r))

-- the functions of a well formed unit are sized
pub well_formed_functions : (primitives : List CPrimitive) (u : CUnit) → IsWellFormed primitives u → All (IsSizedFunction (map shape_of u.structs)) u.functions
well_formed_functions primitives u w =
    let h1 = none_in_right (struct_name_faults u.structs) _ w.typed in
    let h2 = none_in_right (structs_faults (map shape_of u.structs) u.structs) _ h1 in
    let h3 = none_in_right (unit_name_faults primitives u.globals u.functions) _ h2 in
    let h4 = none_in_right (declared_faults (map shape_of u.structs) u.globals) _ h3 in
    functions_sized primitives u 0 u.functions (none_in_left (functions_faults primitives u u.functions) _ h4) (ap (λ (v : CUnit). v.functions) w.resolved)

-- the globals of a well formed unit have few words
pub well_formed_globals : (primitives : List CPrimitive) (u : CUnit) → IsWellFormed primitives u → All (λ d. IsSized (map shape_of u.structs) d.ty) u.globals
well_formed_globals primitives u w =
    let h1 = none_in_right (struct_name_faults u.structs) _ w.typed in
    let h2 = none_in_right (structs_faults (map shape_of u.structs) u.structs) _ h1 in
    let h3 = none_in_right (unit_name_faults primitives u.globals u.functions) _ h2 in
    decls_sized (map shape_of u.structs) Global 0 u.globals (none_in_left (declared_faults (map shape_of u.structs) u.globals) _ h3) (ap (λ (v : CUnit). v.globals) w.resolved)

-- its structs have few fields
pub well_formed_few : (primitives : List CPrimitive) (u : CUnit) → IsWellFormed primitives u → All (λ s. length s.fields < 2 ^ 32) u.structs
well_formed_few primitives u w =
    let p1 = and_parts (is_short u.structs) _ w.plain in
    let p2 = and_parts (is_short u.globals) _ p1.1 in
    let p3 = and_parts (is_short u.functions) _ p2.1 in
    let p4 = and_parts (list_all is_plain_struct u.structs) _ p3.1 in
    each u.structs p4.0
  where
    each : (ss : List CStruct) → list_all is_plain_struct ss ≡ true → All (λ (s : CStruct). length s.fields < 2 ^ 32) ss
    each [] h = All-nil (λ (s : CStruct). length s.fields < 2 ^ 32)
    each (s ∷ rest) h =
        let q = and_parts (is_plain_struct s) (list_all is_plain_struct rest) h in
        let r = and_parts (is_nonempty s.fields) (is_short s.fields) q.0 in
        All-cons (λ (s : CStruct). length s.fields < 2 ^ 32) s rest (ltb-true (length s.fields) (2 ^ 32) r.1) (each rest q.1)

pub units_are_sized : UnitsAreSized
units_are_sized primitives u w = record { structs = well_formed_sized primitives u w; globals = well_formed_globals primitives u w; functions = well_formed_functions primitives u w }
