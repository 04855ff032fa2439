-- What a unit declares outside of bodies, once it is checked: its maps tell it, its environment is that of the definition, and it is as plain
-- as before.
use Rattle.std.proofs.Common.{◌≡◌, ℕ, suc, ◌<◌, ◌-◌, ◌^◌, Bool, true, false, ◌&&◌, nat_lt, min, List, [], ◌∷◌, length, map, get_or, refl, sym, ap, ◌∙◌, subst, arith}
use Rattle.std.specs.List.{list_all, All}
use Rattle.std.proofs.lemmas.List.{length-map}
use Rattle.std.proofs.lemmas.Simd.{map-map}
use Rattle.std.proofs.lemmas.Bool.Decides.{nat_tests}
use Rattle.c0_tree.specs.declared.tree.Decl.{Decl}
use Rattle.c0_tree.specs.declared.tree.StructDef.{StructDef}
use Rattle.c0_tree.specs.declared.tree.Function.{Function}
use Rattle.c0_tree.specs.declared.tree.Unit.{Unit as Source}
use Rattle.c0_tree.specs.declared.tree.Kind.TheVariants.{Global, Local}
use Rattle.c0_tree.specs.declared.primitive.Primitive.{Primitive}
use Rattle.c0_tree.specs.Tree.{CDecl, CStruct, CFunction, CUnit}
use Rattle.c0_tree.specs.Plain.{is_nonempty, is_plain, is_plain_body, is_plain_struct, is_short}
use Rattle.c0_tree.specs.Primitives.{CPrimitive, primitive_view}
use Rattle.c0_tree.specs.View.{decl_view, function_view, struct_view, unit_view}
use Rattle.c0_meaning.specs.Env.{Shape, Typed, Signature, shape_of, typed_of, signature_of, primitive_signature, env_of}
use Rattle.c0_meaning.specs.Resolved.{resolved_decls, resolved_structs}
use Rattle.c0_meaning.proofs.StableTypes.{typed_kept, shapes_kept, decls_length}
use Rattle.c0_name_check.specs.Names.{look, number_named}
use Rattle.c0_name_check.specs.Structs.{KnowsStructs}
use Rattle.c0_body_check.specs.Scope.{FieldsTell, primitive_signature_view, shape_view, signature_view, typed_view}
use Rattle.c0_types.specs.declared.structs.KnownStructs.{KnownStructs}
use Rattle.c0_types.specs.declared.space.UnitNames.{UnitNames}
use Rattle.c0_types.specs.Known.{TellUnit, declarations_env}
use Rattle.c0_types.specs.Parts.{headed_functions, is_plain_function}
use Rattle.c0_types.specs.Source.{read_function, read_unit}
use Rattle.c0_types.proofs.ScopeIsDeclared.{numbered_by_view, numbered_typed, typed_by_views}
use Rattle.c0_types.proofs.HeadingsInTurn.{all_at}
use Rattle.c0_types.proofs.UnitResolved.{signatures_headed}

-- what is plain of a unit, part by part
pub record PlainParts (u : Source) : Type 0 where
  pub structs : length u.structs.items < 2 ^ 32
  pub globals : length u.globals.items < 2 ^ 32
  pub functions : length u.functions.items < 2 ^ 32
  pub fields : All (λ s. length s.fields < 2 ^ 32) (map struct_view u.structs.items)
  pub bodies : list_all is_plain_function (map function_view u.functions.items) ≡ true

and_left : (a b : Bool) → (a && b) ≡ true → a ≡ true
and_left true b h = refl
and_left false b h = h

and_right : (a b : Bool) → (a && b) ≡ true → b ≡ true
and_right true b h = h
and_right false true h = refl
and_right false false h = h

below : (n m : ℕ) → n ≡ m → nat_lt n (2 ^ 32) ≡ true → m < 2 ^ 32
below n m e s = grind (arith, nat_tests)

short : {A B : Type 0} (view : A → B) (xs : List A) → is_short (map view xs) ≡ true → length xs < 2 ^ 32
short view xs h = below (length (map view xs)) (length xs) (length-map xs view) h

pub plain_parts : (u : Source) → is_plain (unit_view u) ≡ true → PlainParts u
plain_parts u h =
    let ss : List CStruct = map struct_view u.structs.items in
    let a : Bool = is_short ss in
    let b : Bool = is_short (map decl_view u.globals.items) in
    let c : Bool = is_short (map function_view u.functions.items) in
    let d : Bool = list_all is_plain_struct ss in
    let e : Bool = list_all is_plain_function (map function_view u.functions.items) in
    let h1 : (b && (c && (d && e))) ≡ true = and_right a (b && (c && (d && e))) h in
    let h2 : (c && (d && e)) ≡ true = and_right b (c && (d && e)) h1 in
    let h3 : (d && e) ≡ true = and_right c (d && e) h2 in
    record {
      structs = short struct_view u.structs.items (and_left a (b && (c && (d && e))) h);
      globals = short decl_view u.globals.items (and_left b (c && (d && e)) h1);
      functions = short function_view u.functions.items (and_left c (d && e) h2);
      fields = λ k s within. below (length (get_or ss k s).fields) (length (get_or ss k s).fields) refl (and_right (is_nonempty (get_or ss k s).fields) (is_short (get_or ss k s).fields) (all_at is_plain_struct ss k s (and_left d e h3) within));
      bodies = and_right d e h3;
    }

-- headings leave functions as plain as they were
pub plain_headed : (structs : List Shape) (k : ℕ) (fs : List CFunction)
    → list_all is_plain_function (headed_functions structs k fs) ≡ list_all is_plain_function fs
plain_headed structs k [] = refl
plain_headed structs k (f ∷ fs) =
    ap (λ (n : ℕ). (nat_lt n (2 ^ 32) && is_plain_body f.body) && list_all is_plain_function (headed_functions structs (suc k) fs)) (decls_length structs Local 0 f.params)
    ∙ ap (λ (b : Bool). is_plain_function f && b) (plain_headed structs (suc k) fs)

signatures_read : (fs : List CFunction) → map signature_of (map read_function fs) ≡ map signature_of fs
signatures_read [] = refl
signatures_read (f ∷ fs) = ap (λ (l : List Signature). signature_of f ∷ l) (signatures_read fs)

-- structs, globals, functions and primitives as they are typed
shapes_outer : (given : List Shape) (ss : List StructDef) (us : List CStruct) → map struct_view ss ≡ resolved_structs given 0 us → map shape_view ss ≡ map shape_of us
shapes_outer given ss us e = sym (map-map shape_of struct_view ss) ∙ (ap (map shape_of) e ∙ shapes_kept given 0 us)

typed_outer : (given : List Shape) (gs : List Decl) (us : List CDecl) → map decl_view gs ≡ resolved_decls given Global 0 us → map typed_view gs ≡ map typed_of us
typed_outer given gs us e = typed_by_views gs ∙ (ap (map typed_of) e ∙ typed_kept given Global 0 us)

signatures_outer : (given : List Shape) (fs : List Function) (us : List CFunction) → map function_view fs ≡ headed_functions given 0 us
    → map signature_view fs ≡ map signature_of (map read_function us)
signatures_outer given fs us e = sym (map-map signature_of function_view fs) ∙ (ap (map signature_of) e ∙ signatures_headed given 0 us)

primitives_outer : (ps : List Primitive) → map primitive_signature_view ps ≡ map primitive_signature (map primitive_view ps)
primitives_outer ps = sym (map-map primitive_signature primitive_view ps)

-- the maps tell the numbers of what is checked
pub tell_unit : (known : KnownStructs) (names : UnitNames) (ss ss1 : List StructDef) (gs gs1 : List Decl) (fs fs1 : List Function) (ps : List Primitive)
    → KnowsStructs known.names known.words.items (map shape_of (map struct_view ss)) → FieldsTell known.field_names.items ss1
    → ((text : List ℕ) → look names.globals text ≡ number_named (λ d. d.name.text) text 0 (map decl_view gs))
    → ((text : List ℕ) → look names.functions text ≡ number_named (λ f. f.name.text) text 0 (map function_view fs))
    → ((text : List ℕ) → look names.primitives text ≡ number_named (λ p. p.name) text 0 (map primitive_view ps))
    → map struct_view ss1 ≡ resolved_structs (map shape_of (map struct_view ss)) 0 (map struct_view ss)
    → map decl_view gs1 ≡ resolved_decls (map shape_of (map struct_view ss)) Global 0 (map decl_view gs)
    → map function_view fs1 ≡ headed_functions (map shape_of (map struct_view ss)) 0 (map function_view fs)
    → TellUnit known names ss1 gs1 fs1 ps
tell_unit known names ss ss1 gs gs1 fs fs1 ps k fields globals functions primitives es eg ef =
    let given : List Shape = map shape_of (map struct_view ss) in
    record {
      structs = subst (λ (l : List Shape). KnowsStructs known.names known.words.items l) (sym (shapes_outer given ss1 (map struct_view ss) es)) k;
      fields = fields;
      globals = λ text. globals text ∙ (numbered_typed text (map decl_view gs) ∙ ap (number_named (λ v. v.text) text 0) (sym (typed_outer given gs1 (map decl_view gs) eg)));
      functions = λ text. functions text
          ∙ (sym (numbered_by_view signature_of (λ s. s.text) (λ f. f.name.text) text (λ f. refl) 0 (map function_view fs))
          ∙ ap (number_named (λ s. s.text) text 0) (sym (signatures_read (map function_view fs)) ∙ sym (signatures_outer given fs1 (map function_view fs) ef)));
      primitives = λ text. primitives text
          ∙ (sym (numbered_by_view primitive_signature (λ s. s.text) (λ p. p.name) text (λ p. refl) 0 (map primitive_view ps))
          ∙ ap (number_named (λ s. s.text) text 0) (sym (primitives_outer ps)));
    }

-- the environment of what is checked is that of the definition
pub env_outer : (table : List CPrimitive) (u : CUnit) (ss : List StructDef) (gs : List Decl) (fs : List Function) (ps : List Primitive)
    → map struct_view ss ≡ resolved_structs (map shape_of u.structs) 0 u.structs
    → map decl_view gs ≡ resolved_decls (map shape_of u.structs) Global 0 u.globals
    → map function_view fs ≡ headed_functions (map shape_of u.structs) 0 u.functions
    → map primitive_view ps ≡ table
    → declarations_env ss gs fs ps ≡ env_of table (read_unit u) []
env_outer table u ss gs fs ps es eg ef ep =
    let given : List Shape = map shape_of u.structs in
    let gs1 : List Typed = map typed_view gs in
    let fs1 : List Signature = map signature_view fs in
    let ps1 : List Signature = map primitive_signature_view ps in
    let gs2 : List Typed = map typed_of u.globals in
    let fs2 : List Signature = map signature_of (map read_function u.functions) in
    ap (λ (l : List Shape). record { structs = l; globals = gs1; functions = fs1; primitives = ps1; locals = [] }) (shapes_outer given ss u.structs es)
    ∙ (ap (λ (l : List Typed). record { structs = given; globals = l; functions = fs1; primitives = ps1; locals = [] }) (typed_outer given gs u.globals eg)
    ∙ (ap (λ (l : List Signature). record { structs = given; globals = gs2; functions = l; primitives = ps1; locals = [] }) (signatures_outer given fs u.functions ef)
    ∙ ap (λ (l : List Signature). record { structs = given; globals = gs2; functions = fs2; primitives = l; locals = [] }) (primitives_outer ps ∙ ap (map primitive_signature) ep)))

-- a unit by its parts
abbrev pub unit_of : ℕ → List CStruct → List CDecl → List CFunction → CUnit
unit_of n ss gs fs = record { length = n; structs = ss; globals = gs; functions = fs }

pub same_unit : (n n1 : ℕ) (ss ss1 : List CStruct) (gs gs1 : List CDecl) (fs fs1 : List CFunction) → n ≡ n1 → ss ≡ ss1 → gs ≡ gs1 → fs ≡ fs1
    → unit_of n ss gs fs ≡ unit_of n1 ss1 gs1 fs1
same_unit n n1 ss ss1 gs gs1 fs fs1 en es eg ef =
    ap (λ (x : ℕ). unit_of x ss gs fs) en
    ∙ (ap (λ (x : List CStruct). unit_of n1 x gs fs) es ∙ (ap (λ (x : List CDecl). unit_of n1 ss1 x fs) eg ∙ ap (unit_of n1 ss1 gs1) ef))

-- a capped number is above 100,000 where the number is
pub over_unit : (n m : ℕ) → n ≡ min m (2 ^ 32 - 1) → nat_lt 100000 n ≡ nat_lt 100000 m
over_unit n m e = grind (arith, nat_tests)
