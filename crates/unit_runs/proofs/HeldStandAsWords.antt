-- Held values and their words: how many there are, where parts begin among them, and that the one stands where the other does.
use Rattle.std.specs.Prelude.{slice_get, replicate, unwrap_or, slice_index, ◌↔◌}
use Rattle.std.proofs.Common.{◌≡◌, ℕ, zero, suc, ◌+◌, ◌-◌, ◌*◌, ◌<◌, List, [], ◌∷◌, ◌++◌, length, Some, refl, sym, ap, ◌∙◌, subst, arith, length-append, inl, inr}
use Rattle.std.proofs.lemmas.Bool.{cases_lt}
use Rattle.std.proofs.lemmas.List.{get_or_append_left, get_or-append-add}
use Rattle.c0_meaning.specs.Ty.{Ty}
use Rattle.c0_meaning.specs.Ty as ty
use Rattle.c0_meaning.specs.Env.{Shape}
use Rattle.c0_meaning.specs.Words.{shape_fields, words}
use Rattle.c0_meaning.specs.RunLaws.{scalars, all_scalars}
use Rattle.c0_meaning.specs.Sizes as sizes
use Rattle.c0_meaning.specs.Addresses.{nth_type, words_to, words_to_part}
use Rattle.c0_meaning.specs.Value.{Location, Value, int, bool, null, at, group, Values, empty, part}
use Rattle.c0_meaning.specs.TypedState.{StoreTyping, types_of, PathLeads, LeadsFrom, PointsTo, Fits, AllFit, AreParts}
use Rattle.c0_expr_code.specs.Scope.{Scope}
use Rattle.c0_expr_runs.specs.Laws.{IsOpened}
use Rattle.c0_expr_runs.specs.Bases.{Bases, words_of_all, location_word, Held, AllHeld, RegionHeld}
use Rattle.cvm_model.specs.Kernel.{part_of_value, value_words_before, part_offset, flat, flats}
use Rattle.unit_runs.specs.Held.{HoldsAt}

-- a value has as many words as scalars
mutual
  pub flat_scalars : (address : Location → ℕ) (v : Value) → length (flat address v) ≡ scalars v
  flat_scalars address (int z) = refl
  flat_scalars address (bool b) = refl
  flat_scalars address null = refl
  flat_scalars address (at l) = refl
  flat_scalars address (group vs) = flats_scalars address vs

  flats_scalars : (address : Location → ℕ) (vs : Values) → length (flats address vs) ≡ all_scalars vs
  flats_scalars address empty = refl
  flats_scalars address (part v vs) = let a = flat_scalars address v in let b = flats_scalars address vs in omega (arith, length-append (flat address v) (flats address vs), a, b)

-- the words of a list stand where those of its parts do
module _ (m : ℕ → ℕ) where
  single : (a w : ℕ) → m a ≡ w → HoldsAt m a (w ∷ [])
  single a w h zero lt = let e : a + 0 ≡ a = omega arith in ap m e ∙ h
  single a w h (suc i) lt = absurd (omega (arith, lt))

  single_back : (a w : ℕ) → HoldsAt m a (w ∷ []) → m a ≡ w
  single_back a w h = let e : a ≡ a + 0 = omega arith in ap m e ∙ h 0 (omega arith)

  moved : (a b : ℕ) (xs : List ℕ) → a ≡ b → HoldsAt m a xs → HoldsAt m b xs
  moved a b xs e h = subst (λ n. HoldsAt m n xs) e h

  joined : (a : ℕ) (xs ys : List ℕ) → HoldsAt m a xs → HoldsAt m (a + length xs) ys → HoldsAt m a (xs ++ ys)
  joined a xs ys h g i lt = elim (cases_lt i (length xs)) as (λ c. m (a + i) ≡ slice_index (xs ++ ys) i) [
    | inl less ↦ h i less ∙ sym (get_or_append_left xs ys 0 i less)
    | inr le ↦
        let k : ℕ = i - length xs in
        let e : length xs + (i - length xs) ≡ i = omega (arith, le) in
        let d : a + i ≡ a + length xs + (i - length xs) = omega (arith, le) in
        ap m d ∙ g (i - length xs) (omega (arith, lt, le, length-append xs ys)) ∙ sym (get_or-append-add xs ys (i - length xs) 0) ∙ ap (λ n. slice_index (xs ++ ys) n) e
  ]

  left_of : (a : ℕ) (xs ys : List ℕ) → HoldsAt m a (xs ++ ys) → HoldsAt m a xs
  left_of a xs ys h i lt = h i (omega (arith, lt, length-append xs ys)) ∙ get_or_append_left xs ys 0 i lt

  right_of : (a : ℕ) (xs ys : List ℕ) → HoldsAt m a (xs ++ ys) → HoldsAt m (a + length xs) ys
  right_of a xs ys h i lt =
      let d : a + length xs + i ≡ a + (length xs + i) = omega arith in
      ap m d ∙ h (length xs + i) (omega (arith, lt, length-append xs ys)) ∙ get_or-append-add xs ys i 0

-- typed values have as many scalars as their types have words
module _ (structs : List Shape) (opened : IsOpened structs) (lay : StoreTyping) where
  words_replicate : (n : ℕ) (t : Ty) → words_of_all structs (replicate n t) ≡ n * words structs t
  words_replicate zero t = omega arith
  words_replicate (suc n) t = let r = words_replicate n t in omega (arith, r)

  mutual
    pub scalars_words : (t : Ty) (v : Value) → Fits structs lay t v → scalars v ≡ words structs t
    scalars_words ty.int (int z) f = refl
    scalars_words ty.bool (bool b) f = refl
    scalars_words (ty.pointer t) null f = refl
    scalars_words (ty.pointer t) (at l) f = refl
    scalars_words (ty.named x) (group vs) f = all_scalars_words (types_of (shape_fields structs x)) vs f ∙ sym (opened x)
    scalars_words (ty.array t n) (group vs) f = all_scalars_words (replicate n t) vs f ∙ words_replicate n t
    scalars_words _ _ f = absurd f

    pub all_scalars_words : (ts : List Ty) (vs : Values) → AllFit structs lay ts vs → all_scalars vs ≡ words_of_all structs ts
    all_scalars_words [] empty f = refl
    all_scalars_words (t ∷ ts) (part v vs) f = let a = scalars_words t v f.0 in let b = all_scalars_words ts vs f.1 in omega (arith, a, b)
    all_scalars_words [] (part v vs) f = absurd f
    all_scalars_words (t ∷ ts) empty f = absurd f

  -- where a part begins
  before : (ts : List Ty) (vs : Values) (i : ℕ) → AllFit structs lay ts vs → value_words_before vs i ≡ sizes.words_before structs ts i
  before [] empty i f = refl
  before (t ∷ ts) (part v vs) zero f = refl
  before (t ∷ ts) (part v vs) (suc i) f = let a = scalars_words t v f.0 in let b = before ts vs i f.1 in omega (arith, a, b)
  before [] (part v vs) i f = absurd f
  before (t ∷ ts) empty i f = absurd f

  before_times : (n i : ℕ) (t : Ty) → i < n → sizes.words_before structs (replicate n t) i ≡ i * words structs t
  before_times zero i t h = absurd (omega (arith, h))
  before_times (suc n) zero t h = omega arith
  before_times (suc n) (suc i) t h = let g = before_times n i t (omega (arith, h)) in omega (arith, g)

  there : (t : Ty) (n i : ℕ) → i < n → slice_get (replicate n t) i ≡ Some t
  there t zero i h = absurd (omega (arith, h))
  there t (suc n) zero h = refl
  there t (suc n) (suc i) h = there t n i (omega (arith, h))

  part_fits : (ts : List Ty) (vs : Values) (i : ℕ) (t : Ty) → AllFit structs lay ts vs → slice_get ts i ≡ Some t → Fits structs lay t (part_of_value vs i)
  part_fits [] empty i t f e = absurd (cc)
  part_fits (u ∷ ts) (part v vs) zero t f e = let q : u ≡ t = cc in subst (λ w. Fits structs lay w v) q f.0
  part_fits (u ∷ ts) (part v vs) (suc i) t f e = part_fits ts vs i t f.1 e
  part_fits [] (part v vs) i t f e = absurd f
  part_fits (u ∷ ts) empty i t f e = absurd f

  at_number : (ts : List Ty) (i : ℕ) (t : Ty) → slice_get ts i ≡ Some t → nth_type ts i ≡ t
  at_number ts i t e = ap (λ o. unwrap_or o ty.int) e

  within : (t : Ty) (path : List ℕ) (u : Ty) (v : Value) → Fits structs lay t v → PathLeads structs t path u → part_offset path v ≡ words_to structs t path
  within t [] u v f l = refl
  within (ty.named x) (i ∷ path) u (group vs) f l =
      let a = before (types_of (shape_fields structs x)) vs i f in
      let b = within l.0 path u (part_of_value vs i) (part_fits (types_of (shape_fields structs x)) vs i l.0 f l.1) l.2 in
      let c = ap (λ w. words_to structs w path) (at_number (types_of (shape_fields structs x)) i l.0 l.1) in
      omega (arith, a, b, c)
  within (ty.array t n) (i ∷ path) u (group vs) f l =
      let a = before (replicate n t) vs i f in
      let b = within t path u (part_of_value vs i) (part_fits (replicate n t) vs i t f (there t n i l.0)) l.1 in
      let c = before_times n i t l.0 in
      omega (arith, a, b, c)
  within ty.int (i ∷ path) u v f l = absurd l
  within ty.bool (i ∷ path) u v f l = absurd l
  within (ty.pointer t) (i ∷ path) u v f l = absurd l
  within (ty.named x) (i ∷ path) u _ f l = absurd f
  within (ty.array t n) (i ∷ path) u _ f l = absurd f

  pub within_region : (ts : List Ty) (path : List ℕ) (u : Ty) (v : Value) → AreParts structs lay ts v → LeadsFrom structs ts path u → part_offset path v ≡ words_to_part structs ts path
  within_region ts [] u v f l = absurd l
  within_region ts (i ∷ path) u (group vs) f l =
      let a = before ts vs i f in
      let b = within l.0 path u (part_of_value vs i) (part_fits ts vs i l.0 f l.1) l.2 in
      let c = ap (λ w. words_to structs w path) (at_number ts i l.0 l.1) in
      omega (arith, a, b, c)
  within_region ts (i ∷ path) u _ f l = absurd f

  pub region_words : (ts : List Ty) (v : Value) → AreParts structs lay ts v → scalars v ≡ words_of_all structs ts
  region_words ts (group vs) f = all_scalars_words ts vs f
  region_words ts _ f = absurd f

-- where each pointer's address is that of its location, the words stand where the values do
module _ (sc : Scope) (p : Bases) (lay : StoreTyping) (opened : IsOpened sc.env.structs) (address : Location → ℕ)
    (same : (l : Location) (t : Ty) → PointsTo sc.env.structs lay l.region l.path t → address l ≡ 4 * location_word sc p l) (m : ℕ → ℕ) where
  length_of : (t : Ty) (v : Value) → Fits sc.env.structs lay t v → length (flat address v) ≡ words sc.env.structs t
  length_of t v f = flat_scalars address v ∙ scalars_words sc.env.structs opened lay t v f

  mutual
    to_words : (a : ℕ) (t : Ty) (v : Value) → Fits sc.env.structs lay t v → Held sc p m a t v → HoldsAt m a (flat address v)
    to_words a ty.int (int z) f h = single m a _ h
    to_words a ty.bool (bool b) f h = single m a _ h
    to_words a (ty.pointer t) null f h = single m a _ h
    to_words a (ty.pointer t) (at l) f h = single m a _ (h ∙ sym (same l t f))
    to_words a (ty.named x) (group vs) f h = all_to_words a (types_of (shape_fields sc.env.structs x)) vs f h
    to_words a (ty.array t n) (group vs) f h = all_to_words a (replicate n t) vs f h
    to_words a _ _ f h = absurd f

    all_to_words : (a : ℕ) (ts : List Ty) (vs : Values) → AllFit sc.env.structs lay ts vs → AllHeld sc p m a ts vs → HoldsAt m a (flats address vs)
    all_to_words a [] empty f h = λ i lt. absurd (omega (arith, lt))
    all_to_words a (t ∷ ts) (part v vs) f h =
        let e : a + words sc.env.structs t ≡ a + length (flat address v) = ap (λ n. a + n) (sym (length_of t v f.0)) in
        joined m a (flat address v) (flats address vs) (to_words a t v f.0 h.0) (moved m _ _ (flats address vs) e (all_to_words (a + words sc.env.structs t) ts vs f.1 h.1))
    all_to_words a [] (part v vs) f h = absurd f
    all_to_words a (t ∷ ts) empty f h = absurd f

  mutual
    of_words : (a : ℕ) (t : Ty) (v : Value) → Fits sc.env.structs lay t v → HoldsAt m a (flat address v) → Held sc p m a t v
    of_words a ty.int (int z) f h = single_back m a _ h
    of_words a ty.bool (bool b) f h = single_back m a _ h
    of_words a (ty.pointer t) null f h = single_back m a _ h
    of_words a (ty.pointer t) (at l) f h = single_back m a _ h ∙ same l t f
    of_words a (ty.named x) (group vs) f h = all_of_words a (types_of (shape_fields sc.env.structs x)) vs f h
    of_words a (ty.array t n) (group vs) f h = all_of_words a (replicate n t) vs f h
    of_words a _ _ f h = absurd f

    all_of_words : (a : ℕ) (ts : List Ty) (vs : Values) → AllFit sc.env.structs lay ts vs → HoldsAt m a (flats address vs) → AllHeld sc p m a ts vs
    all_of_words a [] empty f h = tt
    all_of_words a (t ∷ ts) (part v vs) f h =
        let e : a + length (flat address v) ≡ a + words sc.env.structs t = ap (λ n. a + n) (length_of t v f.0) in
        (of_words a t v f.0 (left_of m a (flat address v) (flats address vs) h), all_of_words (a + words sc.env.structs t) ts vs f.1 (moved m _ _ (flats address vs) e (right_of m a (flat address v) (flats address vs) h)))
    all_of_words a [] (part v vs) f h = absurd f
    all_of_words a (t ∷ ts) empty f h = absurd f

  pub region_both : (a : ℕ) (ts : List Ty) (v : Value) → AreParts sc.env.structs lay ts v → HoldsAt m a (flat address v) ↔ RegionHeld sc p m a ts v
  region_both a ts (group vs) f = ((λ h. all_of_words a ts vs f h), (λ h. all_to_words a ts vs f h))
  region_both a ts _ f = absurd f
