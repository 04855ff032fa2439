-- In a unit that is well formed all that the code of expressions rests on holds.
use Rattle.std.specs.Prelude.{slice_get, map, nat_le}
use Rattle.std.specs.List.{All, list_all}
use Rattle.std.proofs.Common.{◌≡◌, inl, inr, ◌⊎◌, ℕ, zero, suc, ◌+◌, ◌*◌, ◌<◌, ◌≤◌, Bool, true, false, ◌&&◌, ◌||◌, List, [], ◌∷◌, ◌++◌, length, Some, refl, sym, ap, ◌∙◌, subst, arith}
use Rattle.std.proofs.lemmas.Bool.{cases_Bool, cond-true, cond-false, and_parts, leb-true, false≢true}
use Rattle.std.proofs.lemmas.List.Elements.{All-head, All-tail}
use Rattle.std.proofs.lemmas.Option.{slice_get_within}
use Rattle.std.proofs.lemmas.Slice.Eq.{bytes_eq-Decides}
use Rattle.std.specs.Str.{bytes_eq}
use Rattle.mips_table.specs.Code.{World}
use Rattle.c0_tree.specs.Tree.{CTy, CDecl, CStruct, CFunction, CUnit}
use Rattle.c0_tree.specs.Tree as tree
use Rattle.c0_tree.specs.Primitives.{CPrimitive}
use Rattle.masm.specs.declared.registers.CodeAddresses.{CodeAddresses}
use Rattle.c0_meaning.specs.Ty.{Ty, ty_of, is_scalar}
use Rattle.c0_meaning.specs.Ty as ty
use Rattle.c0_meaning.specs.Env.{Typed, Shape, shape_of, typed_of, first_named, fields_of}
use Rattle.c0_meaning.specs.Words.{shape_fields, have_field, StructHolds, by_field, by_part, words, all_words, WordsAreThose}
use Rattle.c0_meaning.specs.DeclaredTypes.{has_empty_array}
use Rattle.c0_meaning.specs.Addresses.{PartsAreApart}
use Rattle.c0_meaning.specs.Limits.{locals_of}
use Rattle.c0_meaning.specs.Sound.{shapes}
use Rattle.c0_meaning.specs.Typed.{IsDeclarable, IsTypedStruct, IsTypedFunction, IsTypedUnit}
use Rattle.c0_meaning.specs.Unit.{IsWellFormed}
use Rattle.c0_meaning.specs.RunLaws.{TypesHaveWords}
use Rattle.c0_meaning.specs.Value.{Region, globals, heap, locals, Location}
use Rattle.c0_meaning.specs.TypedState.{types_of, variable_types, PathLeads, LeadsFrom, PointsTo, AreDeclared}
use Rattle.c0_typed.specs.Leaf.{MAX_REGISTER_VARIABLES, is_leaf, keeps_registers}
use Rattle.c0_expr_code.specs.Scope.{scope_of}
use Rattle.c0_expr_runs.specs.Bases.{words_of_all, Bases, types_in, location_word}
use Rattle.c0_expr_runs.specs.Relation.{layout, Area}
use Rattle.c0_expr_runs.specs.Laws.{RegionsApart, RegionsHaveRoom}
use Rattle.c0_expr_runs.proofs.PartsAtOffsets.{room_from}

-- a type is one that may be declared
abbrev IsDeclared : List Shape → Ty → Type 0
IsDeclared structs t = (c : CTy) × (ty_of c ≡ t) × IsDeclarable structs c

get_all : {X : Type 0} (P : X → Type 0) (xs : List X) (i : ℕ) (x : X) → All P xs → slice_get xs i ≡ Some x → P x
get_all P [] i x h e = absurd (cc)
get_all P (y ∷ xs) zero x h e = let q : y ≡ x = cc in subst P q (All-head P y xs h)
get_all P (y ∷ xs) (suc i) x h e = get_all P xs i x (All-tail P y xs h) e

mapped_there : {A B : Type 0} (f : A → B) (xs : List A) (i : ℕ) (y : B) → slice_get (map f xs) i ≡ Some y
    → (x : A) × (slice_get xs i ≡ Some x) × (f x ≡ y)
mapped_there f [] i y e = absurd (cc)
mapped_there f (x ∷ xs) zero y e = (x, refl, cc)
mapped_there f (x ∷ xs) (suc i) y e = mapped_there f xs i y e

passes : {X : Type 0} (p : X → Bool) (xs : List X) (i : ℕ) (x : X) → list_all p xs ≡ true → slice_get xs i ≡ Some x → p x ≡ true
passes p [] i x h e = absurd (cc)
passes p (y ∷ xs) zero x h e = let q : y ≡ x = cc in subst (λ z. p z ≡ true) q (and_parts (p y) (list_all p xs) h).0
passes p (y ∷ xs) (suc i) x h e = passes p xs i x (and_parts (p y) (list_all p xs) h).1 e

or_right : (a b : Bool) → (a || b) ≡ false → b ≡ false
or_right true b e = absurd (cc)
or_right false b e = e

wide : (n m : ℕ) → 1 ≤ n → m ≤ n * m
wide zero m h = absurd (omega (arith, h))
wide (suc n) m h = omega arith

-- the words of declarations, and of their types
words_same : (structs : List Shape) (decls : List Typed) → all_words structs decls ≡ words_of_all structs (types_of decls)
words_same structs [] = refl
words_same structs (d ∷ rest) = ap (λ n. words structs d.ty + n) (words_same structs rest)

words_append : (structs : List Shape) (xs ys : List CDecl)
    → words_of_all structs (types_of (map typed_of (xs ++ ys))) ≡ all_words structs (map typed_of xs) + all_words structs (map typed_of ys)
words_append structs [] ys = let g = words_same structs (map typed_of ys) in omega (arith, g)
words_append structs (x ∷ xs) ys = let g = words_append structs xs ys in omega (arith, g)

-- the struct of a name
record Struct (all : List CStruct) (x : List ℕ) (fields : List Typed) : Type 0 where
  its : CStruct
  number : ℕ
  there : slice_get all number ≡ Some its
  name : its.name.text ≡ x
  is : fields ≡ map typed_of its.fields

named_struct : (all : List CStruct) (k : ℕ) (x : List ℕ)
    → (fields_of (first_named (λ s. s.text) x k (map shape_of all)) ≡ []) ⊎ Struct all x (fields_of (first_named (λ s. s.text) x k (map shape_of all)))
named_struct [] k x = inl refl
named_struct (s ∷ rest) k x = elim (cases_Bool (bytes_eq s.name.text x)) [
  | inl e ↦ inr (record { its = s; number = 0; there = refl; name = (bytes_eq-Decides s.name.text x).0 e; is = ap fields_of (cond-true (bytes_eq s.name.text x) (Some (k, shape_of s)) (first_named (λ s. s.text) x (suc k) (map shape_of rest)) e) })
  | inr e ↦
      let q = ap fields_of (cond-false (bytes_eq s.name.text x) (Some (k, shape_of s)) (first_named (λ s. s.text) x (suc k) (map shape_of rest)) e) in
      elim (named_struct rest (suc k) x) [
        | inl h ↦ inl (q ∙ h)
        | inr h ↦ inr (record { its = h.its; number = suc h.number; there = h.there; name = h.name; is = q ∙ h.is })
      ]
]

module _ (all : List CStruct) (typed : All (IsTypedStruct (map shape_of all)) all) where
  nothing_held : (x y : List ℕ) → shape_fields (map shape_of all) x ≡ [] → StructHolds (map shape_of all) x y → ⊥
  nothing_held x y e (by_field h) = false≢true (ap (λ ds. have_field ds y) (sym e) ∙ h)
  nothing_held x y e (by_part {part = z} h g) = false≢true (ap (λ ds. have_field ds z) (sym e) ∙ h)

  loose : (x : List ℕ) → StructHolds (map shape_of all) x x → ⊥
  loose x h = elim (named_struct all 0 x) [
    | inl e ↦ nothing_held x x e h
    | inr s ↦ (get_all (IsTypedStruct (map shape_of all)) all s.number s.its typed s.there).loose (subst (λ y. StructHolds (map shape_of all) y y) (sym s.name) h)
  ]

  -- the parts of declared types are declared
  element : (c : CTy) (t : Ty) (n i : ℕ) → ty_of c ≡ ty.array t n → IsDeclarable (map shape_of all) c → i < n → IsDeclared (map shape_of all) t
  element (tree.array c m) t n i e h less =
      let q : ty_of c ≡ t = cc in
      let r : m ≡ n = cc in
      let small = h.small in
      let w = wide m (words (map shape_of all) (ty_of c)) (omega (arith, less, r)) in
      (c, q, record { known = h.known; full = or_right _ (has_empty_array c) h.full; small = omega (arith, small, w) })
  element tree.int t n i e h less = absurd (cc)
  element tree.bool t n i e h less = absurd (cc)
  element (tree.pointer c) t n i e h less = absurd (cc)
  element (tree.named x) t n i e h less = absurd (cc)

  field : (x : List ℕ) (i : ℕ) (t : Ty) → slice_get (types_of (shape_fields (map shape_of all) x)) i ≡ Some t → IsDeclared (map shape_of all) t
  field x i t e = elim (named_struct all 0 x) [
    | inl z ↦ let q : slice_get (types_of []) i ≡ Some t = sym (ap (λ ds. slice_get (types_of ds) i) z) ∙ e in absurd (cc)
    | inr s ↦
        let a = mapped_there (λ (d : Typed). d.ty) (map typed_of s.its.fields) i t (sym (ap (λ ds. slice_get (types_of ds) i) s.is) ∙ e) in
        let b = mapped_there typed_of s.its.fields i a.0 a.1 in
        (b.0.ty, ap (λ (d : Typed). d.ty) b.2 ∙ a.2, get_all (λ (d : CDecl). IsDeclarable (map shape_of all) d.ty) s.its.fields i b.0 (get_all (IsTypedStruct (map shape_of all)) all s.number s.its typed s.there).fields b.1)
  ]

  part : (t : Ty) (path : List ℕ) (u : Ty) → IsDeclared (map shape_of all) t → PathLeads (map shape_of all) t path u → IsDeclared (map shape_of all) u
  part t [] u h l = subst (IsDeclared (map shape_of all)) l h
  part (ty.named x) (i ∷ path) u h l = part l.0 path u (field x i l.0 l.1) l.2
  part (ty.array t n) (i ∷ path) u h l = part t path u (element h.0 t n i h.1 h.2 l.0) l.1
  part ty.int (i ∷ path) u h l = absurd l
  part ty.bool (i ∷ path) u h l = absurd l
  part (ty.pointer t) (i ∷ path) u h l = absurd l

  part_of : (types : List Ty) (path : List ℕ) (u : Ty) → AreDeclared (map shape_of all) types → LeadsFrom (map shape_of all) types path u
      → IsDeclared (map shape_of all) u
  part_of types [] u h l = absurd l
  part_of types (i ∷ path) u h l = part l.0 path u (h i l.0 l.1) l.2

-- the types of declarations
declared : (structs : List Shape) (decls : List CDecl) → All (λ d. IsDeclarable structs d.ty) decls
    → AreDeclared structs (types_of (map typed_of decls))
declared structs decls h i t e =
    let a = mapped_there (λ (d : Typed). d.ty) (map typed_of decls) i t e in
    let b = mapped_there typed_of decls i a.0 a.1 in
    (b.0.ty, ap (λ (d : Typed). d.ty) b.2 ∙ a.2, get_all (λ (d : CDecl). IsDeclarable structs d.ty) decls i b.0 h b.1)

declared_both : (structs : List Shape) (xs ys : List CDecl) → AreDeclared structs (types_of (map typed_of xs))
    → AreDeclared structs (types_of (map typed_of ys)) → AreDeclared structs (types_of (map typed_of (xs ++ ys)))
declared_both structs [] ys h g i t e = g i t e
declared_both structs (x ∷ xs) ys h g zero t e = h 0 t e
declared_both structs (x ∷ xs) ys h g (suc i) t e = declared_both structs xs ys (λ j u q. h (suc j) u q) g i t e

module _ (primitives : List CPrimitive) (u : CUnit) (formed : IsWellFormed primitives u) (typed : IsTypedUnit primitives u) (those : WordsAreThose) (filled : TypesHaveWords) (apart : PartsAreApart) where
  opened : (x : List ℕ) → words (shapes u) (ty.named x) ≡ words_of_all (shapes u) (types_of (shape_fields (shapes u) x))
  opened x = those.fields (shapes u) x (loose u.structs typed.structs x) ∙ words_same (shapes u) (shape_fields (shapes u) x)

  some_words : (t : Ty) → IsDeclared (shapes u) t → 1 ≤ words (shapes u) t
  some_words t h = subst (λ y. 1 ≤ words (shapes u) y) h.1 (filled primitives u formed h.0 h.2)

  module _ (f : CFunction) (number : ℕ) (there : slice_get u.functions number ≡ Some f) (addresses : CodeAddresses) (w : World) (p : Bases) (room : RegionsHaveRoom w (scope_of u f addresses) p) (spread : RegionsApart (scope_of u f addresses) p) (objects : AreDeclared (shapes u) p.objects) where
    all_declared : (g : Region) → AreDeclared (shapes u) (types_in (scope_of u f addresses) p g)
    all_declared globals = declared (shapes u) u.globals typed.globals
    all_declared heap = objects
    all_declared locals =
        let s = (get_all (IsTypedFunction primitives u) u.functions number f typed.functions there).signature in
        declared_both (shapes u) f.params (locals_of f.body) (declared (shapes u) f.params s.params) (declared (shapes u) (locals_of f.body) s.locals)

    one_word : (g : Region) (path : List ℕ) (t : Ty) → LeadsFrom (shapes u) (types_in (scope_of u f addresses) p g) path t → 1 ≤ words (shapes u) t
    one_word g path t l = some_words t (part_of u.structs typed.structs (types_in (scope_of u f addresses) p g) path t (all_declared g) l)

    by_region : (t : Ty) (a b : Region) (x y : List ℕ) → PointsTo (shapes u) (layout (scope_of u f addresses) p) a x t
        → PointsTo (shapes u) (layout (scope_of u f addresses) p) b y t
        → location_word (scope_of u f addresses) p (record { region = a; path = x }) ≡ location_word (scope_of u f addresses) p (record { region = b; path = y })
        → ◌≡◌ {A = Location} (record { region = a; path = x }) (record { region = b; path = y })
    by_region t globals globals x y h g e = ap (λ z. record { region = globals; path = z }) (apart primitives u (types_in (scope_of u f addresses) p globals) x y t formed h g (one_word globals x t h) (omega (arith, e)))
    by_region t heap heap x y h g e = ap (λ z. record { region = heap; path = z }) (apart primitives u p.objects x y t formed h g (one_word heap x t h) (omega (arith, e)))
    by_region t globals heap x y h g e =
        let r = room_from (shapes u) opened (types_in (scope_of u f addresses) p globals) x t h in
        let some = one_word globals x t h in
        let order = spread.heap_behind in
        absurd (omega (arith, r, some, order, e))
    by_region t heap globals x y h g e =
        let r = room_from (shapes u) opened (types_in (scope_of u f addresses) p globals) y t g in
        let some = one_word globals y t g in
        let order = spread.heap_behind in
        absurd (omega (arith, r, some, order, e))
    by_region t locals b x y h g e = absurd h
    by_region t a locals x y h g e = absurd g

    scalars : keeps_registers f ≡ true → (n : ℕ) (t : Ty) → slice_get (variable_types f) n ≡ Some t → (is_scalar t ≡ true) × (n < 8)
    scalars h n t e =
        let a = and_parts (is_leaf f.body) (nat_le (length (variable_types f)) MAX_REGISTER_VARIABLES && list_all is_scalar (variable_types f)) h in
        let b = and_parts (nat_le (length (variable_types f)) MAX_REGISTER_VARIABLES) (list_all is_scalar (variable_types f)) a.1 in
        let few : length (variable_types f) ≤ 8 = leb-true (length (variable_types f)) MAX_REGISTER_VARIABLES b.0 in
        let below = slice_get_within (variable_types f) n t e in
        (passes is_scalar (variable_types f) n t b.1 e, omega (arith, few, below))

    pub area : Area w (scope_of u f addresses) p
    area =
        let order = spread.heap_behind in
        let last = room.heap in
        let holds = words_append (shapes u) f.params (locals_of f.body) in
        record {
          opened = opened;
          globals_room = omega (arith, order, last);
          heap_room = room.heap;
          globals_from = room.from;
          heap_from = let a = room.from in omega (arith, order, a);
          frame_room = room.frame;
          frame_inside = room.inside;
          frame_holds = omega (arith, holds);
          scalars = scalars;
          filled = one_word;
          apart = λ t l m h g e. by_region t l.region m.region l.path m.path h g e;
        }
