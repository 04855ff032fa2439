-- Where parts stand, and what is read there.
use Rattle.std.specs.Prelude.{slice_get, replicate, unwrap_or, option_and_then}
use Rattle.std.proofs.Common.{◌≡◌, ℕ, zero, suc, ◌+◌, ◌*◌, ◌<◌, ◌≤◌, true, List, [], ◌∷◌, ◌++◌, Option, Some, refl, ap, ◌∙◌, subst, arith}
use Rattle.c0_meaning.specs.Ty.{Ty, is_scalar}
use Rattle.c0_meaning.specs.Env.{Shape}
use Rattle.c0_meaning.specs.Words.{shape_fields, words}
use Rattle.c0_meaning.specs.Value.{Value, int, bool, null, at, group, Values, empty, part, nth, get}
use Rattle.c0_meaning.specs.TypedState.{types_of, LeadsFrom, Fits, AllFit, AreParts, PathLeads}
use Rattle.c0_expr_runs.proofs.OnePartMore.{there}
use Rattle.c0_expr_code.specs.Scope.{Scope}
use Rattle.c0_expr_runs.specs.Bases.{Bases, words_of_all, word_of_scalar, Held, AllHeld, RegionHeld}
use Rattle.c0_meaning.specs.Sizes.{words_before}
use Rattle.c0_meaning.specs.Addresses.{words_to, words_to_part}
use Rattle.c0_expr_runs.specs.Relation.{layout}
use Rattle.c0_meaning.specs.Ty as ty

pub one_word : (structs : List Shape) (t : Ty) → is_scalar t ≡ true → words structs t ≡ 1
one_word structs ty.int h = refl
one_word structs ty.bool h = refl
one_word structs (ty.pointer t) h = refl
one_word structs (ty.named x) h = absurd (cc)
one_word structs (ty.array t n) h = absurd (cc)

times_room : (i n w : ℕ) → i < n → i * w + w ≤ n * w
times_room i zero w h = absurd (omega (arith, h))
times_room zero (suc n) w h = omega arith
times_room (suc i) (suc n) w h = let g = times_room i n w (omega (arith, h)) in omega (arith, g)

pub before_replicate : (structs : List Shape) (n i : ℕ) (t : Ty) → i < n → words_before structs (replicate n t) i ≡ i * words structs t
before_replicate structs zero i t h = absurd (omega (arith, h))
before_replicate structs (suc n) zero t h = omega arith
before_replicate structs (suc n) (suc i) t h = let g = before_replicate structs n i t (omega (arith, h)) in omega (arith, g)

pub before_room : (structs : List Shape) (ts : List Ty) (i : ℕ) (t : Ty) → slice_get ts i ≡ Some t
    → words_before structs ts i + words structs t ≤ words_of_all structs ts
before_room structs [] i t e = absurd (cc)
before_room structs (u ∷ ts) zero t e = let q : u ≡ t = cc in subst (λ v. 0 + words structs v ≤ words structs u + words_of_all structs ts) q (omega arith)
before_room structs (u ∷ ts) (suc i) t e = let g = before_room structs ts i t e in omega (arith, g)

-- scalars one after another
pub before_scalars : (structs : List Shape) (ts : List Ty) (i : ℕ) (t : Ty) → ((n : ℕ) (u : Ty) → slice_get ts n ≡ Some u → is_scalar u ≡ true)
    → slice_get ts i ≡ Some t → words_before structs ts i ≡ i
before_scalars structs [] i t h e = absurd (cc)
before_scalars structs (u ∷ ts) zero t h e = refl
before_scalars structs (u ∷ ts) (suc i) t h e =
    let g = before_scalars structs ts i t (λ n v q. h (suc n) v q) e in
    let o = one_word structs u (h 0 u refl) in
    omega (arith, g, o)

-- the offset of one part more
pub offset_on : (structs : List Shape) (t : Ty) (path : List ℕ) (u : Ty) (i : ℕ) → PathLeads structs t path u
    → words_to structs t (path ++ i ∷ []) ≡ words_to structs t path + words_to structs u (i ∷ [])
offset_on structs t [] u i h = let q : words_to structs t (i ∷ []) ≡ words_to structs u (i ∷ []) = ap (λ v. words_to structs v (i ∷ [])) h in omega (arith, q)
offset_on structs (ty.named x) (j ∷ path) u i h =
    let a : words_to structs (unwrap_or (slice_get (types_of (shape_fields structs x)) j) ty.int) (path ++ i ∷ []) ≡ words_to structs h.0 (path ++ i ∷ []) = ap (λ o. words_to structs (unwrap_or o ty.int) (path ++ i ∷ [])) h.1 in
    let b : words_to structs (unwrap_or (slice_get (types_of (shape_fields structs x)) j) ty.int) path ≡ words_to structs h.0 path = ap (λ o. words_to structs (unwrap_or o ty.int) path) h.1 in
    let g = offset_on structs h.0 path u i h.2 in
    omega (arith, a, b, g)
offset_on structs (ty.array t n) (j ∷ path) u i h = let g = offset_on structs t path u i h.1 in omega (arith, g)
offset_on structs ty.int (j ∷ path) u i h = absurd h
offset_on structs ty.bool (j ∷ path) u i h = absurd h
offset_on structs (ty.pointer t) (j ∷ path) u i h = absurd h

pub offset_from_on : (structs : List Shape) (types : List Ty) (path : List ℕ) (u : Ty) (i : ℕ) → LeadsFrom structs types path u
    → words_to_part structs types (path ++ i ∷ []) ≡ words_to_part structs types path + words_to structs u (i ∷ [])
offset_from_on structs types [] u i h = absurd h
offset_from_on structs types (j ∷ path) u i h =
    let a : words_to structs (unwrap_or (slice_get types j) ty.int) (path ++ i ∷ []) ≡ words_to structs h.0 (path ++ i ∷ []) = ap (λ o. words_to structs (unwrap_or o ty.int) (path ++ i ∷ [])) h.1 in
    let b : words_to structs (unwrap_or (slice_get types j) ty.int) path ≡ words_to structs h.0 path = ap (λ o. words_to structs (unwrap_or o ty.int) path) h.1 in
    let g = offset_on structs h.0 path u i h.2 in
    omega (arith, a, b, g)

pub field_offset : (structs : List Shape) (x : List ℕ) (i : ℕ) (t : Ty) → slice_get (types_of (shape_fields structs x)) i ≡ Some t
    → words_to structs (ty.named x) (i ∷ []) ≡ words_before structs (types_of (shape_fields structs x)) i
field_offset structs x i t e = omega arith

module _ (structs : List Shape) (opened : (x : List ℕ) → words structs (ty.named x) ≡ words_of_all structs (types_of (shape_fields structs x))) where
  pub room : (t : Ty) (path : List ℕ) (u : Ty) → PathLeads structs t path u → words_to structs t path + words structs u ≤ words structs t
  room t [] u h = subst (λ v. 0 + words structs v ≤ words structs t) h (omega arith)
  room (ty.named x) (i ∷ path) u h =
      let b : words_to structs (unwrap_or (slice_get (types_of (shape_fields structs x)) i) ty.int) path ≡ words_to structs h.0 path = ap (λ o. words_to structs (unwrap_or o ty.int) path) h.1 in
      let g = room h.0 path u h.2 in
      let r = before_room structs (types_of (shape_fields structs x)) i h.0 h.1 in
      let o = opened x in
      omega (arith, b, g, r, o)
  room (ty.array t n) (i ∷ path) u h =
      let g = room t path u h.1 in
      let r = times_room i n (words structs t) h.0 in
      omega (arith, g, r)
  room ty.int (j ∷ path) u h = absurd h
  room ty.bool (j ∷ path) u h = absurd h
  room (ty.pointer t) (j ∷ path) u h = absurd h

  pub room_from : (types : List Ty) (path : List ℕ) (u : Ty) → LeadsFrom structs types path u
      → words_to_part structs types path + words structs u ≤ words_of_all structs types
  room_from types [] u h = absurd h
  room_from types (i ∷ path) u h =
      let b : words_to structs (unwrap_or (slice_get types i) ty.int) path ≡ words_to structs h.0 path = ap (λ o. words_to structs (unwrap_or o ty.int) path) h.1 in
      let g = room h.0 path u h.2 in
      let r = before_room structs types i h.0 h.1 in
      omega (arith, b, g, r)

module _ (sc : Scope) (p : Bases) (m : ℕ → ℕ) where
  -- a part that is there, and stands in memory
  pub record Seen (o : Option Value) (a : ℕ) (t : Ty) : Type 0 where
    pub value : Value
    pub is : o ≡ Some value
    pub fits : Fits sc.env.structs (layout sc p) t value
    pub held : Held sc p m a t value

  moved : (o : Option Value) (a b : ℕ) (t : Ty) → a ≡ b → Seen o a t → Seen o b t
  moved o a b t e h = subst (λ x. Seen o x t) e h

  nth_seen : (ts : List Ty) (vs : Values) (a i : ℕ) (t : Ty) → AllFit sc.env.structs (layout sc p) ts vs → AllHeld sc p m a ts vs
      → slice_get ts i ≡ Some t → Seen (nth vs i) (a + words_before sc.env.structs ts i) t
  nth_seen [] empty a i t f h e = absurd (cc)
  nth_seen (u ∷ ts) (part v vs) a zero t f h e =
      let q : u ≡ t = cc in
      moved (Some v) a (a + 0) t (omega arith) (subst (Seen (Some v) a) q (record { value = v; is = refl; fits = f.0; held = h.0 }))
  nth_seen (u ∷ ts) (part v vs) a (suc i) t f h e = moved (nth vs i) _ _ t (omega arith) (nth_seen ts vs (a + words sc.env.structs u) i t f.1 h.1 e)
  nth_seen [] (part v vs) a i t f h e = absurd h
  nth_seen (u ∷ ts) empty a i t f h e = absurd h

  from_seen : (path : List ℕ) (t : Ty) (o : Option Value) (a b : ℕ) (u : Ty) → Seen o a u
      → ((v : Value) → Fits sc.env.structs (layout sc p) u v → Held sc p m a u v → Seen (get v path) b t)
      → Seen (option_and_then (λ w. get w path) o) b t
  from_seen path t o a b u h f =
      let r = f h.value h.fits h.held in
      record { value = r.value; is = ap (option_and_then (λ w. get w path)) h.is ∙ r.is; fits = r.fits; held = r.held }

  pub get_seen : (t : Ty) (path : List ℕ) (u : Ty) (v : Value) (a : ℕ) → PathLeads sc.env.structs t path u → Fits sc.env.structs (layout sc p) t v
      → Held sc p m a t v → Seen (get v path) (a + words_to sc.env.structs t path) u
  get_seen t [] u v a l f h = moved (Some v) a (a + 0) u (omega arith) (subst (Seen (Some v) a) l (record { value = v; is = refl; fits = f; held = h }))
  get_seen (ty.named x) (i ∷ path) u (group vs) a l f h =
      let ts = types_of (shape_fields sc.env.structs x) in
      let b : words_to sc.env.structs (unwrap_or (slice_get (types_of (shape_fields sc.env.structs x)) i) ty.int) path ≡ words_to sc.env.structs l.0 path = ap (λ o. words_to sc.env.structs (unwrap_or o ty.int) path) l.1 in
      moved _ _ _ u (omega (arith, b)) (from_seen path u (nth vs i) (a + words_before sc.env.structs (types_of (shape_fields sc.env.structs x)) i) (a + words_before sc.env.structs (types_of (shape_fields sc.env.structs x)) i + words_to sc.env.structs l.0 path) l.0 (nth_seen ts vs a i l.0 f h l.1) (λ v g k. get_seen l.0 path u v _ l.2 g k))
  get_seen (ty.array t n) (i ∷ path) u (group vs) a l f h =
      let b = before_replicate sc.env.structs n i t l.0 in
      moved _ _ _ u (omega (arith, b)) (from_seen path u (nth vs i) (a + words_before sc.env.structs (replicate n t) i) (a + words_before sc.env.structs (replicate n t) i + words_to sc.env.structs t path) t (nth_seen (replicate n t) vs a i t f h (there t n i l.0)) (λ v g k. get_seen t path u v _ l.1 g k))
  get_seen (ty.named x) (i ∷ path) u _ a l f h = absurd f
  get_seen (ty.array t n) (i ∷ path) u _ a l f h = absurd f
  get_seen ty.int (i ∷ path) u _ a l f h = absurd l
  get_seen ty.bool (i ∷ path) u _ a l f h = absurd l
  get_seen (ty.pointer t) (i ∷ path) u _ a l f h = absurd l

  pub region_seen : (types : List Ty) (path : List ℕ) (u : Ty) (v : Value) (a : ℕ) → LeadsFrom sc.env.structs types path u
      → AreParts sc.env.structs (layout sc p) types v → RegionHeld sc p m a types v
      → Seen (get v path) (a + words_to_part sc.env.structs types path) u
  region_seen types [] u v a l f h = absurd l
  region_seen types (i ∷ path) u (group vs) a l f h =
      let b : words_to sc.env.structs (unwrap_or (slice_get types i) ty.int) path ≡ words_to sc.env.structs l.0 path = ap (λ o. words_to sc.env.structs (unwrap_or o ty.int) path) l.1 in
      moved _ _ _ u (omega (arith, b)) (from_seen path u (nth vs i) (a + words_before sc.env.structs types i) (a + words_before sc.env.structs types i + words_to sc.env.structs l.0 path) l.0 (nth_seen types vs a i l.0 f h l.1) (λ v g k. get_seen l.0 path u v _ l.2 g k))
  region_seen types (i ∷ path) u (int z) a l f h = absurd f
  region_seen types (i ∷ path) u (bool b) a l f h = absurd f
  region_seen types (i ∷ path) u null a l f h = absurd f
  region_seen types (i ∷ path) u (at x) a l f h = absurd f

  pub scalar_held : (t : Ty) (v : Value) (a : ℕ) → is_scalar t ≡ true → Held sc p m a t v → m a ≡ word_of_scalar sc p v
  scalar_held ty.int v a s h = h
  scalar_held ty.bool v a s h = h
  scalar_held (ty.pointer t) v a s h = h
  scalar_held (ty.named x) v a s h = absurd (cc)
  scalar_held (ty.array t n) v a s h = absurd (cc)
