-- Types, declarations and structs with their names resolved: what is read of them is read as before, and resolving them again changes
-- nothing. Only texts, spans and types are read, and these stay.
use Rattle.std.proofs.Common.{◌≡◌, ℕ, suc, Bool, true, false, ltb, cond, List, [], ◌∷◌, ◌++◌, length, map, Option, Some, None, refl, sym, ap, ◌∙◌}
use Rattle.std.specs.List.{list_all}
use Rattle.c0_tree.specs.declared.tree.Span.{Span}
use Rattle.c0_tree.specs.Plain.{is_nonempty, is_plain_struct}
use Rattle.c0_tree.specs.declared.tree.Kind.{Kind}
use Rattle.c0_tree.specs.declared.tree.Kind.TheVariants.{Unresolved, Struct, Field}
use Rattle.c0_tree.specs.Tree.{CName, CTy, int, bool, pointer, named, array, CDecl, CStruct}
use Rattle.c0_meaning.specs.Ty.{Ty, ty_of}
use Rattle.c0_meaning.specs.Ty as ty
use Rattle.c0_meaning.specs.Env.{Shape, first_named, shape_of, typed_of}
use Rattle.c0_meaning.specs.DeclaredTypes.{unknown_structs, has_empty_array, type_faults, declared_faults, pass_fault, pass_faults}
use Rattle.c0_meaning.specs.Names.{twice_faults, in_source_order, struct_name_faults, decl_name_faults}
use Rattle.c0_meaning.specs.Resolved.{standing_for, looked_up, resolved_type, resolved_decls, resolved_structs}
use Rattle.c0_meaning.specs.Unit.{structs_faults}

-- a name of the same text at the same place
pub record IsAt (x y : CName) : Type 0 where
  pub text : y.text ≡ x.text
  pub span : y.span ≡ x.span

looked_up_at : {A : Type 0} (kind : Kind) (found : Option (ℕ × A)) (x : CName) → IsAt x (looked_up kind found x)
looked_up_at kind None x = record { text = refl; span = refl }
looked_up_at kind (Some found) x = record { text = refl; span = refl }

looked_up_again : {A : Type 0} (kind : Kind) (found : Option (ℕ × A)) (x : CName)
    → looked_up kind found (looked_up kind found x) ≡ looked_up kind found x
looked_up_again kind None x = refl
looked_up_again kind (Some found) x = refl

-- types
-- the type that is written stays
pub ty_kept : (structs : List Shape) (t : CTy) → ty_of (resolved_type structs t) ≡ ty_of t
ty_kept structs int = refl
ty_kept structs bool = refl
ty_kept structs (pointer t) = ap ty.pointer (ty_kept structs t)
ty_kept structs (named x) = ap ty.named (looked_up_at Struct (first_named (λ s. s.text) x.text 0 structs) x).text
ty_kept structs (array t n) = ap (λ (u : Ty). ty.array u n) (ty_kept structs t)

-- unknown structs are told by their names' texts and places
unknown_at : (structs : List Shape) (x y : CName) → IsAt x y → unknown_structs structs (named y) ≡ unknown_structs structs (named x)
unknown_at structs x y at = rw (at.text, at.span) refl

unknown_kept : (structs : List Shape) (t : CTy) → unknown_structs structs (resolved_type structs t) ≡ unknown_structs structs t
unknown_kept structs int = refl
unknown_kept structs bool = refl
unknown_kept structs (pointer t) = unknown_kept structs t
unknown_kept structs (named x) = unknown_at structs x _ (looked_up_at Struct (first_named (λ s. s.text) x.text 0 structs) x)
unknown_kept structs (array t n) = unknown_kept structs t

empty_kept : (structs : List Shape) (t : CTy) → has_empty_array (resolved_type structs t) ≡ has_empty_array t
empty_kept structs int = refl
empty_kept structs bool = refl
empty_kept structs (pointer t) = empty_kept structs t
empty_kept structs (named x) = refl
empty_kept structs (array t n) = cc (empty_kept structs t)

-- a second resolving looks the same texts up
pub type_again : (structs : List Shape) (t : CTy) → resolved_type structs (resolved_type structs t) ≡ resolved_type structs t
type_again structs int = refl
type_again structs bool = refl
type_again structs (pointer t) = ap pointer (type_again structs t)
type_again structs (named x) =
    let found = first_named (λ s. s.text) x.text 0 structs in
    ap (λ (text : List ℕ). named (looked_up Struct (first_named (λ s. s.text) text 0 structs) (looked_up Struct found x))) (looked_up_at Struct found x).text
    ∙ ap named (looked_up_again Struct found x)
type_again structs (array t n) = ap (λ (u : CTy). array u n) (type_again structs t)

-- the faults of a declared type, and of one that is passed, stay
pub type_faults_kept : (structs : List Shape) (t : CTy) (span : Span)
    → type_faults structs (resolved_type structs t) span ≡ type_faults structs t span
type_faults_kept structs t span = rw (unknown_kept structs t, empty_kept structs t, ty_kept structs t) refl

pub pass_kept : (structs : List Shape) (in_asm : Bool) (t : CTy) (span : Span)
    → pass_fault in_asm (resolved_type structs t) span ≡ pass_fault in_asm t span
pass_kept structs in_asm t span = rw (ty_kept structs t) refl

-- declarations
-- their names and types stay, and so do their number, their faults and themselves
pub typed_kept : (structs : List Shape) (kind : Kind) (k : ℕ) (decls : List CDecl)
    → map typed_of (resolved_decls structs kind k decls) ≡ map typed_of decls
typed_kept structs kind k [] = refl
typed_kept structs kind k (d ∷ rest) = cc (ty_kept structs d.ty, typed_kept structs kind (suc k) rest)

pub tys_kept : (structs : List Shape) (kind : Kind) (k : ℕ) (decls : List CDecl)
    → map (λ d. ty_of d.ty) (resolved_decls structs kind k decls) ≡ map (λ d. ty_of d.ty) decls
tys_kept structs kind k [] = refl
tys_kept structs kind k (d ∷ rest) = cc (ty_kept structs d.ty, tys_kept structs kind (suc k) rest)

pub decls_length : (structs : List Shape) (kind : Kind) (k : ℕ) (decls : List CDecl)
    → length (resolved_decls structs kind k decls) ≡ length decls
decls_length structs kind k [] = refl
decls_length structs kind k (d ∷ rest) = ap suc (decls_length structs kind (suc k) rest)

pub declared_kept : (structs : List Shape) (kind : Kind) (k : ℕ) (decls : List CDecl)
    → declared_faults structs (resolved_decls structs kind k decls) ≡ declared_faults structs decls
declared_kept structs kind k [] = refl
declared_kept structs kind k (d ∷ rest) = cc (type_faults_kept structs d.ty d.ty_span, declared_kept structs kind (suc k) rest)

pub passes_kept : (structs : List Shape) (in_asm : Bool) (kind : Kind) (k : ℕ) (decls : List CDecl)
    → pass_faults in_asm (resolved_decls structs kind k decls) ≡ pass_faults in_asm decls
passes_kept structs in_asm kind k [] = refl
passes_kept structs in_asm kind k (d ∷ rest) = cc (pass_kept structs in_asm d.ty d.ty_span, passes_kept structs in_asm kind (suc k) rest)

pub decls_again : (structs : List Shape) (kind : Kind) (k : ℕ) (decls : List CDecl)
    → resolved_decls structs kind k (resolved_decls structs kind k decls) ≡ resolved_decls structs kind k decls
decls_again structs kind k [] = refl
decls_again structs kind k (d ∷ rest) = cc (type_again structs d.ty, decls_again structs kind (suc k) rest)

-- names: what is left of one that nothing was looked up for
abbrev pub bare : CName → CName
bare x = standing_for Unresolved 0 x

-- names that are set twice, by their texts and places
pub twice_bare : (before : List (List ℕ)) (names : List CName) → twice_faults before (map bare names) ≡ twice_faults before names
twice_bare before [] = refl
twice_bare before (x ∷ rest) = cc (twice_bare (before ++ x.text ∷ []) rest)

pub twice_alike : (before : List (List ℕ)) (names others : List CName) → map bare others ≡ map bare names
    → twice_faults before others ≡ twice_faults before names
twice_alike before names others e = sym (twice_bare before others) ∙ (ap (twice_faults before) e ∙ twice_bare before names)

pub decl_names_bare : (structs : List Shape) (kind : Kind) (k : ℕ) (decls : List CDecl)
    → map bare (map (λ d. d.name) (resolved_decls structs kind k decls)) ≡ map bare (map (λ d. d.name) decls)
decl_names_bare structs kind k [] = refl
decl_names_bare structs kind k (d ∷ rest) = cc (decl_names_bare structs kind (suc k) rest)

-- one name placed among others, where the names after it are placed so
ordered_after : (x : CName) (rest : List CName)
    → ((others : List CName) → map bare (in_source_order rest others) ≡ in_source_order (map bare rest) (map bare others)) →
    (others : List CName) → map bare (in_source_order (x ∷ rest) others) ≡ in_source_order (bare x ∷ map bare rest) (map bare others)
ordered_after x rest h [] = ap (◌∷◌ (bare x)) (h [])
ordered_after x rest h (y ∷ others) = placed (ltb y.span.start x.span.start) (h (y ∷ others)) (ordered_after x rest h others)
  where
    placed : (b : Bool) → map bare (in_source_order rest (y ∷ others)) ≡ in_source_order (map bare rest) (bare y ∷ map bare others)
        → map bare (in_source_order (x ∷ rest) others) ≡ in_source_order (bare x ∷ map bare rest) (map bare others)
        → map bare (cond b (y ∷ in_source_order (x ∷ rest) others) (x ∷ in_source_order rest (y ∷ others)))
        ≡ cond b (bare y ∷ in_source_order (bare x ∷ map bare rest) (map bare others)) (bare x ∷ in_source_order (map bare rest) (bare y ∷ map bare others))
    placed true p q = ap (◌∷◌ (bare y)) q
    placed false p q = ap (◌∷◌ (bare x)) p

-- the order of the source goes by places alone
pub ordered_bare : (names others : List CName)
    → map bare (in_source_order names others) ≡ in_source_order (map bare names) (map bare others)
ordered_bare [] others = refl
ordered_bare (x ∷ rest) others = ordered_after x rest (ordered_bare rest) others

-- structs
-- their shapes stay, and so do their number, their faults and themselves
pub shapes_kept : (given : List Shape) (k : ℕ) (structs : List CStruct)
    → map shape_of (resolved_structs given k structs) ≡ map shape_of structs
shapes_kept given k [] = refl
shapes_kept given k (s ∷ rest) = cc (typed_kept given Field 0 s.fields, shapes_kept given (suc k) rest)

pub structs_length : (given : List Shape) (k : ℕ) (structs : List CStruct) → length (resolved_structs given k structs) ≡ length structs
structs_length given k [] = refl
structs_length given k (s ∷ rest) = ap suc (structs_length given (suc k) rest)

struct_names_bare : (given : List Shape) (k : ℕ) (structs : List CStruct)
    → map bare (map (λ s. s.name) (resolved_structs given k structs)) ≡ map bare (map (λ s. s.name) structs)
struct_names_bare given k [] = refl
struct_names_bare given k (s ∷ rest) = cc (struct_names_bare given (suc k) rest)

pub struct_names_kept : (given : List Shape) (k : ℕ) (structs : List CStruct)
    → struct_name_faults (resolved_structs given k structs) ≡ struct_name_faults structs
struct_names_kept given k structs = twice_alike [] (map (λ s. s.name) structs) (map (λ s. s.name) (resolved_structs given k structs)) (struct_names_bare given k structs)

-- the fields' names that stand twice
pub decl_names_kept : (structs : List Shape) (kind : Kind) (k : ℕ) (decls : List CDecl)
    → decl_name_faults (resolved_decls structs kind k decls) ≡ decl_name_faults decls
decl_names_kept structs kind k decls = twice_alike [] (map (λ d. d.name) decls) (map (λ d. d.name) (resolved_decls structs kind k decls)) (decl_names_bare structs kind k decls)

pub structs_kept : (given : List Shape) (k : ℕ) (structs : List CStruct)
    → structs_faults given (resolved_structs given k structs) ≡ structs_faults given structs
structs_kept given k [] = refl
structs_kept given k (s ∷ rest) = cc (decl_names_kept given Field 0 s.fields, declared_kept given Field 0 s.fields, structs_kept given (suc k) rest)

pub structs_again : (given : List Shape) (k : ℕ) (structs : List CStruct)
    → resolved_structs given k (resolved_structs given k structs) ≡ resolved_structs given k structs
structs_again given k [] = refl
structs_again given k (s ∷ rest) = cc (decls_again given Field 0 s.fields, structs_again given (suc k) rest)

has_part_kept : (structs : List Shape) (kind : Kind) (k : ℕ) (decls : List CDecl) → is_nonempty (resolved_decls structs kind k decls) ≡ is_nonempty decls
has_part_kept structs kind k [] = refl
has_part_kept structs kind k (d ∷ rest) = refl

pub plain_structs_kept : (given : List Shape) (k : ℕ) (structs : List CStruct)
    → list_all is_plain_struct (resolved_structs given k structs) ≡ list_all is_plain_struct structs
plain_structs_kept given k [] = refl
plain_structs_kept given k (s ∷ rest) = cc (has_part_kept given Field 0 s.fields, decls_length given Field 0 s.fields, plain_structs_kept given (suc k) rest)
