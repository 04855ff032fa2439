-- Different parts of one type begin at different words: a part stands inside the value that it is of, parts beside one another don't
-- overlap, and where no struct holds itself no part of a value has the value's own type.
use Rattle.std.proofs.Common.{◌≡◌, ◌⊎◌, inl, inr, ℕ, zero, suc, ◌+◌, ◌*◌, ◌<◌, ◌≤◌, Bool, true, false, nat_lt, List, [], ◌∷◌, ◌++◌, Some, refl, sym, ap, ◌∙◌, subst, arith}
use Rattle.std.specs.Prelude.{slice_get, unwrap_or}
use Rattle.std.proofs.lemmas.Bool.{or_left, or_right, ltb-true, ltb-false, false_from_ne_true}
use Rattle.std.proofs.lemmas.Slice.Eq.{bytes_eq-Decides}
use Rattle.c0_meaning.specs.Ty.{Ty, int, bool, pointer, named, array}
use Rattle.c0_meaning.specs.Env.{Typed, Shape}
use Rattle.c0_meaning.specs.Words.{is_made_of, have_field, shape_fields, StructHolds, by_field, by_part, holds, words, all_words}
use Rattle.c0_meaning.specs.Sound.{shapes}
use Rattle.c0_meaning.specs.Sizes.{words_before}
use Rattle.c0_meaning.specs.TypedState.{types_of, PathLeads, LeadsFrom}
use Rattle.c0_meaning.specs.Addresses.{nth_type, words_to, words_to_part, PartsAreApart}
use Rattle.c0_meaning.proofs.StructHolding.{holds_as_tested}
use Rattle.c0_meaning.proofs.StructWords.{fields_words}
use Rattle.c0_meaning.proofs.OpenedTypesHaveWords.{well_formed_loose}
use Rattle.c0_meaning.proofs.PartsFit.{leads_on}

-- one element and those before it are among all
rows : (i n w : ℕ) → i < n → i * w + w ≤ n * w
rows i zero w h = absurd (omega (arith, h))
rows zero (suc n) w h = omega arith
rows (suc i) (suc n) w h = omega (arith, rows i n w (omega (arith, h)))

not_empty : (p : List ℕ) (i : ℕ) → p ++ i ∷ [] ≡ [] → ⊥
not_empty [] i e = cc
not_empty (x ∷ p) i e = cc

-- the type that is found is that of its number
type_found : (types : List Ty) (i : ℕ) (t : Ty) → slice_get types i ≡ Some t → nth_type types i ≡ t
type_found types i t e = ap (λ o. unwrap_or o int) e

-- a field that is made of a struct
field_made : (ds : List Typed) (i : ℕ) (t : Ty) (y : List ℕ) → slice_get (types_of ds) i ≡ Some t → is_made_of y t ≡ true → have_field ds y ≡ true
field_made [] i t y e made = absurd (cc)
field_made (d ∷ ds) zero t y e made = let same : t ≡ d.ty = cc in or_left (is_made_of y d.ty) (have_field ds y) (subst (λ u. is_made_of y u ≡ true) same made)
field_made (d ∷ ds) (suc i) t y e made = or_right (is_made_of y d.ty) (have_field ds y) (field_made ds i t y e made)

module _ (structs : List Shape) where
  -- a field with those before it is among all
  part_within : (ds : List Typed) (i : ℕ) (t : Ty) → slice_get (types_of ds) i ≡ Some t → words_before structs (types_of ds) i + words structs t ≤ all_words structs ds
  part_within [] i t e = absurd (cc)
  part_within (d ∷ ds) zero t e = let same : t ≡ d.ty = cc in subst (λ u. 0 + words structs u ≤ words structs d.ty + all_words structs ds) (sym same) (omega arith)
  part_within (d ∷ ds) (suc i) t e = let h = part_within ds i t e in omega (arith, h)

  -- and is before the later ones
  part_before : (ts : List Ty) (i j : ℕ) (t : Ty) → slice_get ts i ≡ Some t → i < j → words_before structs ts i + words structs t ≤ words_before structs ts j
  part_before [] i j t e h = absurd (cc)
  part_before (u ∷ ts) i zero t e h = absurd (omega (arith, h))
  part_before (u ∷ ts) zero (suc j) t e h = let same : t ≡ u = cc in subst (λ v. 0 + words structs v ≤ words structs u + words_before structs ts j) (sym same) (omega arith)
  part_before (u ∷ ts) (suc i) (suc j) t e h = let k = part_before ts i j t e (omega (arith, h)) in omega (arith, k)

  -- a type with a part that is a struct is made of that struct, or of one that holds it
  made : (u : Ty) (p : List ℕ) (y : List ℕ) → PathLeads structs u p (named y) → ((is_made_of y u ≡ true) ⊎ ((z : List ℕ) × (is_made_of z u ≡ true) × StructHolds structs z y))
  made u [] y h = inl (subst (λ v. is_made_of y v ≡ true) (sym h) ((bytes_eq-Decides y y).1 refl))
  made (named z) (i ∷ p) y h =
      let itself = (bytes_eq-Decides z z).1 refl in
      elim (made h.0 p y h.2) [
        | inl m ↦ inr (z, itself, by_field (field_made (shape_fields structs z) i h.0 y h.1 m))
        | inr k ↦ inr (z, itself, by_part (field_made (shape_fields structs z) i h.0 k.0 h.1 k.1) k.2)
      ]
  made (array t n) (i ∷ p) y h = made t p y h.1
  made int (i ∷ p) y h = absurd h
  made bool (i ∷ p) y h = absurd h
  made (pointer t) (i ∷ p) y h = absurd h

  module _ (loose : (x : List ℕ) → StructHolds structs x x → ⊥) where
    -- no part of a value has the value's own type
    no_self : (t : Ty) (p : List ℕ) → PathLeads structs t p t → p ≡ []
    no_self t [] h = refl
    no_self (named x) (i ∷ p) h =
        absurd (loose x (elim (made h.0 p x h.2) [
          | inl m ↦ by_field (field_made (shape_fields structs x) i h.0 x h.1 m)
          | inr k ↦ by_part (field_made (shape_fields structs x) i h.0 k.0 h.1 k.1) k.2
        ]))
    no_self (array t n) (i ∷ p) h = absurd (not_empty p i (no_self t (p ++ i ∷ []) (leads_on structs t p (array t n) i t h.1 (h.0, refl))))
    no_self int (i ∷ p) h = absurd h
    no_self bool (i ∷ p) h = absurd h
    no_self (pointer t) (i ∷ p) h = absurd h

    -- a part stands inside the value that it is of
    inside : (t : Ty) (p : List ℕ) (u : Ty) → PathLeads structs t p u → words_to structs t p + words structs u ≤ words structs t
    inside t [] u h = subst (λ v. 0 + words structs v ≤ words structs t) h (omega arith)
    inside (named x) (i ∷ p) u h =
        let fs = shape_fields structs x in
        let k = inside h.0 p u h.2 in
        let w = part_within fs i h.0 h.1 in
        let all = fields_words structs x (false_from_ne_true (holds structs x x) (λ held. loose x ((holds_as_tested structs x x).0 held))) in
        subst (λ v. words_before structs (types_of fs) i + words_to structs v p + words structs u ≤ words structs (named x)) (sym (type_found (types_of fs) i h.0 h.1)) (omega (arith, k, w, all))
    inside (array t n) (i ∷ p) u h = let k = inside t p u h.1 in let w = rows i n (words structs t) h.0 in omega (arith, k, w)
    inside int (i ∷ p) u h = absurd h
    inside bool (i ∷ p) u h = absurd h
    inside (pointer t) (i ∷ p) u h = absurd h

    -- parts of values one after another: of the same value they are apart where that value's are, and parts of two values don't overlap
    apart_among : (types : List Ty) (i j : ℕ) (v w : Ty) (p q : List ℕ) (t : Ty) → slice_get types i ≡ Some v → slice_get types j ≡ Some w → PathLeads structs v p t → PathLeads structs w q t → 1 ≤ words structs t
        → (PathLeads structs v q t → words_to structs v p ≡ words_to structs v q → p ≡ q)
        → words_before structs types i + words_to structs (nth_type types i) p ≡ words_before structs types j + words_to structs (nth_type types j) q → i ∷ p ≡ j ∷ q
    apart_among types i j v w p q t found other a b h below e = by_order (nat_lt i j) (nat_lt j i) refl refl
      where
        here : words_before structs types i + words_to structs v p ≡ words_before structs types j + words_to structs w q
        here = subst (λ x. words_before structs types i + words_to structs x p ≡ words_before structs types j + words_to structs w q) (type_found types i v found)
            (subst (λ x. words_before structs types i + words_to structs (nth_type types i) p ≡ words_before structs types j + words_to structs x q) (type_found types j w other) e)

        by_order : (x y : Bool) → nat_lt i j ≡ x → nat_lt j i ≡ y → i ∷ p ≡ j ∷ q
        by_order true y f g = absurd (omega (arith, part_before types i j v found (ltb-true i j f), inside v p t a, here, h))
        by_order false true f g = absurd (omega (arith, part_before types j i w other (ltb-true j i g), inside w q t b, here, h))
        by_order false false f g =
            let same : i ≡ j = omega (arith, ltb-false i j f, ltb-false j i g) in
            let type_too : w ≡ v = sym (type_found types j w other) ∙ (ap (nth_type types) (sym same) ∙ type_found types i v found) in
            let words_too : words_to structs v p ≡ words_to structs w q = omega (arith, here, ap (words_before structs types) same) in
            let path = below (subst (λ x. PathLeads structs x q t) type_too b) (words_too ∙ ap (λ x. words_to structs x q) type_too) in
            cc

    apart : (s : Ty) (p q : List ℕ) (t : Ty) → PathLeads structs s p t → PathLeads structs s q t → 1 ≤ words structs t → words_to structs s p ≡ words_to structs s q → p ≡ q
    apart s [] [] t a b h e = refl
    apart s [] (j ∷ q) t a b h e = sym (no_self s (j ∷ q) (subst (λ u. PathLeads structs s (j ∷ q) u) (sym a) b))
    apart s (i ∷ p) [] t a b h e = no_self s (i ∷ p) (subst (λ u. PathLeads structs s (i ∷ p) u) (sym b) a)
    apart (named x) (i ∷ p) (j ∷ q) t a b h e =
        apart_among (types_of (shape_fields structs x)) i j a.0 b.0 p q t a.1 b.1 a.2 b.2 h (λ c d. apart a.0 p q t a.2 c h d) e
    apart (array u n) (i ∷ p) (j ∷ q) t a b h e = by_order (λ words_too. apart u p q t a.1 b.1 h words_too) (nat_lt i j) (nat_lt j i) refl refl
      where
        by_order : (words_to structs u p ≡ words_to structs u q → p ≡ q) → (x y : Bool) → nat_lt i j ≡ x → nat_lt j i ≡ y → i ∷ p ≡ j ∷ q
        by_order below true y f g = absurd (omega (arith, rows i j (words structs u) (ltb-true i j f), inside u p t a.1, e, h))
        by_order below false true f g = absurd (omega (arith, rows j i (words structs u) (ltb-true j i g), inside u q t b.1, e, h))
        by_order below false false f g =
            let same : i ≡ j = omega (arith, ltb-false i j f, ltb-false j i g) in
            let path = below (omega (arith, e, ap (λ k. k * words structs u) same)) in
            cc
    apart int (i ∷ p) (j ∷ q) t a b h e = absurd a
    apart bool (i ∷ p) (j ∷ q) t a b h e = absurd a
    apart (pointer u) (i ∷ p) (j ∷ q) t a b h e = absurd a

    apart_from : (types : List Ty) (p q : List ℕ) (t : Ty) → LeadsFrom structs types p t → LeadsFrom structs types q t → 1 ≤ words structs t → words_to_part structs types p ≡ words_to_part structs types q → p ≡ q
    apart_from types [] q t a b h e = absurd a
    apart_from types (i ∷ p) [] t a b h e = absurd b
    apart_from types (i ∷ p) (j ∷ q) t a b h e = apart_among types i j a.0 b.0 p q t a.1 b.1 a.2 b.2 h (λ c d. apart a.0 p q t a.2 c h d) e

pub parts_are_apart : PartsAreApart
parts_are_apart primitives u types p q t well a b h e = apart_from (shapes u) (well_formed_loose primitives u well) types p q t a b h e
