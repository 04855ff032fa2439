-- A type that may be declared in a unit that is well formed has a word, since each struct has a field; and a variable of it starts with a
-- value of it.
use Rattle.std.proofs.Common.{◌≡◌, inl, inr, ℕ, zero, suc, ◌*◌, ◌<◌, ◌≤◌, Bool, true, false, ◌||◌, List, [], ◌∷◌, length, map, Some, refl, sym, ap, ◌∙◌, subst, arith}
use Rattle.std.proofs.lemmas.Bool.{and_parts, or_left, or_right, cond-true, cond-false, false_from_ne_true, cases_Bool}
use Rattle.std.proofs.lemmas.List.Elements.{All-nil, All-cons, All-head, All-tail}
use Rattle.std.proofs.lemmas.Slice.Eq.{bytes_eq-Decides}
use Rattle.std.specs.Prelude.{is_some, ◌==◌, replicate}
use Rattle.std.specs.List.{All, list_all}
use Rattle.std.specs.Str.{bytes_eq}
use Rattle.c0_tree.specs.Plain.{is_nonempty, is_short, is_plain_struct, is_plain}
use Rattle.c0_tree.specs.Tree.{CTy, int, bool, pointer, named, array, CDecl, CStruct, CUnit}
use Rattle.c0_meaning.specs.Ty.{ty_of}
use Rattle.c0_meaning.specs.Ty as ty
use Rattle.c0_meaning.specs.Env.{Typed, Shape, shape_of, typed_of, first_named, fields_of}
use Rattle.c0_meaning.specs.Words.{is_made_of, have_field, shape_fields, holds, words, all_words}
use Rattle.c0_meaning.specs.DeclaredTypes.{has_empty_array}
use Rattle.c0_meaning.specs.Sound.{shapes}
use Rattle.c0_meaning.specs.Typed.{AreKnown, IsDeclarable, IsTypedStruct}
use Rattle.c0_meaning.proofs.StructHolding.{Among, holds_as_tested}
use Rattle.c0_meaning.proofs.StructWords.{rank, rank_below, rank_falls, fields_words}
use Rattle.c0_meaning.specs.Value.{Value, group, empty, repeated, zero_with, zeros_with, zero_within, zero_of, zeros_of}
use Rattle.c0_meaning.specs.TypedState.{StoreTyping, types_of, Fits, AllFit}
use Rattle.c0_meaning.specs.RunLaws.{TypesHaveWords, ZerosFit}
use Rattle.c0_meaning.proofs.WellTypedUnits.{units_are_faultless}

-- each struct has a field
abbrev HaveFields : List CStruct → Type 0
HaveFields structs = All (λ s. 1 ≤ length s.fields) structs

struct_has_field : (s : CStruct) → is_plain_struct s ≡ true → 1 ≤ length s.fields
struct_has_field s h = counted s.fields (and_parts (is_nonempty s.fields) (is_short s.fields) h).0
  where
    counted : (ds : List CDecl) → is_nonempty ds ≡ true → 1 ≤ length ds
    counted [] h = absurd (cc)
    counted (d ∷ ds) h = omega arith

-- so it is in a plain tree
have_fields : (structs : List CStruct) → list_all is_plain_struct structs ≡ true → HaveFields structs
have_fields [] h = All-nil (λ s. 1 ≤ length s.fields)
have_fields (s ∷ rest) h =
    let p = and_parts (is_plain_struct s) (list_all is_plain_struct rest) h in
    All-cons (λ s. 1 ≤ length s.fields) s rest (struct_has_field s p.0) (have_fields rest p.1)

plain_structs : (u : CUnit) → is_plain u ≡ true → list_all is_plain_struct u.structs ≡ true
plain_structs u h =
    let a = and_parts (is_short u.structs) _ h in
    let b = and_parts (is_short u.globals) _ a.1 in
    let c = and_parts (is_short u.functions) _ b.1 in
    (and_parts (list_all is_plain_struct u.structs) _ c.1).0

-- the struct of a name that is defined
record Defined (structs : List Shape) (all : List CStruct) (fields : List Typed) (x : List ℕ) : Type 0 where
  definition : CStruct
  typed : IsTypedStruct structs definition
  filled : HaveFields all → 1 ≤ length definition.fields
  same : definition.name.text ≡ x
  its : fields ≡ map typed_of definition.fields

defined : (structs : List Shape) (all : List CStruct) (x : List ℕ) (k : ℕ) → All (IsTypedStruct structs) all → is_some (first_named (λ s. s.text) x k (map shape_of all)) ≡ true → Defined structs all (fields_of (first_named (λ s. s.text) x k (map shape_of all))) x
defined structs [] x k typed e = cc
defined structs (s ∷ rest) x k typed e =
    elim (cases_Bool (bytes_eq s.name.text x)) [
      | inl q ↦ record {
        definition = s;
        typed = All-head (IsTypedStruct structs) s rest typed;
        filled = λ h. All-head (λ s. 1 ≤ length s.fields) s rest h;
        same = (bytes_eq-Decides s.name.text x).0 q;
        its = ap fields_of (cond-true (bytes_eq s.name.text x) (Some (k, shape_of s)) (first_named (λ s. s.text) x (suc k) (map shape_of rest)) q);
      }
      | inr q ↦
          let v = cond-false (bytes_eq s.name.text x) (Some (k, shape_of s)) (first_named (λ s. s.text) x (suc k) (map shape_of rest)) q in
          let r = defined structs rest x (suc k) (All-tail (IsTypedStruct structs) s rest typed) (sym (ap is_some v) ∙ e) in
          record { definition = r.definition; typed = r.typed; filled = λ h. r.filled (All-tail (λ s. 1 ≤ length s.fields) s rest h); same = r.same; its = ap fields_of v ∙ r.its }
    ]

-- a name that is defined is one of those of structs
among : (all : List Shape) (x : List ℕ) (k : ℕ) → is_some (first_named (λ s. s.text) x k all) ≡ true → Among (map (λ s. s.text) all) x
among [] x k e = cc
among (s ∷ rest) x k e =
    elim (cases_Bool (bytes_eq s.text x)) [
      | inl q ↦ inl ((bytes_eq-Decides s.text x).0 q)
      | inr q ↦ inr (among rest x (suc k) (sym (ap is_some (cond-false (bytes_eq s.text x) (Some (k, s)) (first_named (λ s. s.text) x (suc k) rest) q)) ∙ e))
    ]

product : (m n : ℕ) → 1 ≤ m → 1 ≤ n → 1 ≤ m * n
product zero n h g = absurd (omega (arith, h))
product (suc m) zero h g = absurd (omega (arith, g))
product (suc m) (suc n) h g = omega arith

-- neither side of a test that fails holds
or_none : (a b : Bool) → (a || b) ≡ false → (a ≡ false) × (b ≡ false)
or_none true b e = absurd (cc)
or_none false b e = (refl, e)

positive : (n : ℕ) → (n == 0) ≡ false → 1 ≤ n
positive zero e = absurd (cc)
positive (suc n) e = omega arith

-- a type has words where the structs that it is made of have
type_words : (structs : List Shape) (t : CTy) → has_empty_array t ≡ false → AreKnown structs t →
    ((y : List ℕ) → is_made_of y (ty_of t) ≡ true → is_some (first_named (λ s. s.text) y 0 structs) ≡ true → 1 ≤ words structs (ty.named y)) → 1 ≤ words structs (ty_of t)
type_words structs int full known h = omega arith
type_words structs bool full known h = omega arith
type_words structs (pointer t) full known h = omega arith
type_words structs (named x) full known h = h x.text ((bytes_eq-Decides x.text x.text).1 refl) known
type_words structs (array t n) full known h =
    let f = or_none (n == 0) (has_empty_array t) full in
    product n (words structs (ty_of t)) (positive n f.0) (type_words structs t f.1 known h)

module _ (all : List CStruct) (typed : All (IsTypedStruct (map shape_of all)) all) where
  loose : (x : List ℕ) → is_some (first_named (λ s. s.text) x 0 (map shape_of all)) ≡ true → holds (map shape_of all) x x ≡ false
  loose x e =
      let d = defined (map shape_of all) all x 0 typed e in
      subst (λ y. holds (map shape_of all) y y ≡ false) d.same
      (false_from_ne_true (holds (map shape_of all) d.definition.name.text d.definition.name.text) (λ h. d.typed.loose ((holds_as_tested (map shape_of all) d.definition.name.text d.definition.name.text).0 h)))

  -- a struct that a defined one has in it holds fewer
  falls : (x y : List ℕ) → is_some (first_named (λ s. s.text) y 0 (map shape_of all)) ≡ true → have_field (shape_fields (map shape_of all) x) y ≡ true → rank (map shape_of all) y < rank (map shape_of all) x
  falls x y known field = rank_falls (map shape_of all) x y field (among (map shape_of all) y 0 known) (loose y known)

  first_words : (decls : List CDecl) → 1 ≤ length decls → All (λ d. IsDeclarable (map shape_of all) d.ty) decls →
      ((y : List ℕ) → have_field (map typed_of decls) y ≡ true → is_some (first_named (λ s. s.text) y 0 (map shape_of all)) ≡ true → 1 ≤ words (map shape_of all) (ty.named y)) → 1 ≤ all_words (map shape_of all) (map typed_of decls)
  first_words [] h a g = absurd (omega (arith, h))
  first_words (d ∷ rest) h a g =
      let i = All-head (λ d. IsDeclarable (map shape_of all) d.ty) d rest a in
      let w = type_words (map shape_of all) d.ty i.full i.known (λ y made known. g y (or_left (is_made_of y (ty_of d.ty)) (have_field (map typed_of rest) y) made) known) in
      omega (arith, w)

  named_words : HaveFields all → (k : ℕ) (x : List ℕ) → rank (map shape_of all) x < k → is_some (first_named (λ s. s.text) x 0 (map shape_of all)) ≡ true → 1 ≤ words (map shape_of all) (ty.named x)
  named_words filled zero x less e = absurd (omega (arith, less))
  named_words filled (suc k) x less e =
      let d = defined (map shape_of all) all x 0 typed e in
      let r = first_words d.definition.fields (d.filled filled) d.typed.fields
      (λ y field known. named_words filled k y (let f = falls x y known (subst (λ fs. have_field fs y ≡ true) (sym d.its) field) in omega (arith, f, less)) known) in
      subst (λ n. 1 ≤ n) (sym (fields_words (map shape_of all) x (loose x e) ∙ ap (all_words (map shape_of all)) d.its)) r

  -- a variable of a type starts with a value of it, where those of the structs that it is made of do
  type_zero : (layout : StoreTyping) (f : List ℕ → Value) (t : CTy) → AreKnown (map shape_of all) t
      → ((y : List ℕ) → is_made_of y (ty_of t) ≡ true → is_some (first_named (λ s. s.text) y 0 (map shape_of all)) ≡ true → Fits (map shape_of all) layout (ty.named y) (f y)) → Fits (map shape_of all) layout (ty_of t) (zero_with f (ty_of t))
  type_zero layout f int known h = record { sfits = omega arith }
  type_zero layout f bool known h = tt
  type_zero layout f (pointer t) known h = tt
  type_zero layout f (named x) known h = h x.text ((bytes_eq-Decides x.text x.text).1 refl) known
  type_zero layout f (array t n) known h = repeats n (zero_with f (ty_of t)) (type_zero layout f t known h)
    where
      repeats : (n : ℕ) (v : Value) → Fits (map shape_of all) layout (ty_of t) v → AllFit (map shape_of all) layout (replicate n (ty_of t)) (repeated n v)
      repeats zero v g = tt
      repeats (suc n) v g = (g, repeats n v g)

  decls_zero : (layout : StoreTyping) (f : List ℕ → Value) (decls : List CDecl) → All (λ d. IsDeclarable (map shape_of all) d.ty) decls
      → ((y : List ℕ) → have_field (map typed_of decls) y ≡ true → is_some (first_named (λ s. s.text) y 0 (map shape_of all)) ≡ true → Fits (map shape_of all) layout (ty.named y) (f y)) → AllFit (map shape_of all) layout (types_of (map typed_of decls)) (zeros_with f (map typed_of decls))
  decls_zero layout f [] a h = tt
  decls_zero layout f (d ∷ rest) a h = (
    type_zero layout f d.ty (All-head (λ d. IsDeclarable (map shape_of all) d.ty) d rest a).known (λ y made known. h y (or_left (is_made_of y (ty_of d.ty)) (have_field (map typed_of rest) y) made) known),
    decls_zero layout f rest (All-tail (λ d. IsDeclarable (map shape_of all) d.ty) d rest a) (λ y field known. h y (or_right (is_made_of y (ty_of d.ty)) (have_field (map typed_of rest) y) field) known),
  )

  named_zero : (layout : StoreTyping) (k : ℕ) (x : List ℕ) → rank (map shape_of all) x < k → is_some (first_named (λ s. s.text) x 0 (map shape_of all)) ≡ true → Fits (map shape_of all) layout (ty.named x) (zero_within k (map shape_of all) x)
  named_zero layout zero x less e = absurd (omega (arith, less))
  named_zero layout (suc k) x less e =
      let d = defined (map shape_of all) all x 0 typed e in
      let r = decls_zero layout (zero_within k (map shape_of all)) d.definition.fields d.typed.fields
      (λ y field known. named_zero layout k y (let f = falls x y known (subst (λ fs. have_field fs y ≡ true) (sym d.its) field) in omega (arith, f, less)) known) in
      subst (Fits (map shape_of all) layout (ty.named x)) (sym (cond-false (holds (map shape_of all) x x) (group empty) (group (zeros_with (zero_within k (map shape_of all)) (shape_fields (map shape_of all) x))) (loose x e)))
      (subst (λ fs. AllFit (map shape_of all) layout (types_of fs) (zeros_with (zero_within k (map shape_of all)) fs)) (sym d.its) r)

  known_zero : (layout : StoreTyping) (y : List ℕ) → is_some (first_named (λ s. s.text) y 0 (map shape_of all)) ≡ true → Fits (map shape_of all) layout (ty.named y) (zero_within (length (map shape_of all)) (map shape_of all) y)
  known_zero layout y known = named_zero layout (length (map shape_of all)) y (rank_below (map shape_of all) y (among (map shape_of all) y 0 known) (loose y known)) known

  -- a variable or an object starts with a value of its type
  pub zero_fits : (layout : StoreTyping) (t : CTy) → AreKnown (map shape_of all) t → Fits (map shape_of all) layout (ty_of t) (zero_of (map shape_of all) (ty_of t))
  zero_fits layout t known = type_zero layout (zero_within (length (map shape_of all)) (map shape_of all)) t known (λ y made there. known_zero layout y there)

  -- so do declarations
  pub zeros_fit : (layout : StoreTyping) (decls : List CDecl) → All (λ d. IsDeclarable (map shape_of all) d.ty) decls → AllFit (map shape_of all) layout (types_of (map typed_of decls)) (zeros_of (map shape_of all) (map typed_of decls))
  zeros_fit layout decls a = decls_zero layout (zero_within (length (map shape_of all)) (map shape_of all)) decls a (λ y field known. known_zero layout y known)

pub types_have_words : TypesHaveWords
types_have_words primitives u well t d =
    let typed = (units_are_faultless primitives u).1 well.typed in
    let filled = have_fields u.structs (plain_structs u well.plain) in
    type_words (shapes u) t d.full d.known (λ y made known. named_words u.structs typed.structs filled (suc (rank (shapes u) y)) y (omega arith) known)

pub zeros_fit_types : ZerosFit
zeros_fit_types primitives u well layout t d = let typed = (units_are_faultless primitives u).1 well.typed in zero_fits u.structs typed.structs layout t d.known
