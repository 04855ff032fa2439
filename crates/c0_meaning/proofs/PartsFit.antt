-- Values that fit their types: their parts, their changes, and the layouts that they fit.
use Rattle.std.proofs.Common.{◌≡◌, ℕ, zero, suc, ◌<◌, List, [], ◌∷◌, ◌++◌, Option, Some, refl, sym, ap, ◌∙◌, subst, arith}
use Rattle.std.specs.Prelude.{slice_get, replicate, option_and_then}
use Rattle.c0_meaning.specs.Ty.{Ty}
use Rattle.c0_meaning.specs.Ty as ty
use Rattle.c0_meaning.specs.Env.{Shape}
use Rattle.c0_meaning.specs.Words.{shape_fields}
use Rattle.c0_meaning.specs.Value.{Region, globals, heap, locals, Value, int, bool, null, at, group, Values, empty, part, nth, change_nth, followed_by, count, get, value_with}
use Rattle.c0_meaning.specs.TypedState.{StoreTyping, types_of, PathLeads, LeadsFrom, PointsTo, Fits, AllFit, AreParts}

pub there : (t : Ty) (n i : ℕ) → i < n → slice_get (replicate n t) i ≡ Some t
there t zero i h = absurd (omega (arith, h))
there t (suc n) zero h = refl
there t (suc n) (suc i) h = there t n i (omega (arith, h))

pub get_before : (types more : List Ty) (i : ℕ) (t : Ty) → slice_get types i ≡ Some t → slice_get (types ++ more) i ≡ Some t
get_before [] more i t e = cc
get_before (u ∷ types) more zero t e = e
get_before (u ∷ types) more (suc i) t e = get_before types more i t e

-- a path, and one part more
pub leads_on : (structs : List Shape) (t : Ty) (path : List ℕ) (u : Ty) (i : ℕ) (w : Ty) → PathLeads structs t path u → PathLeads structs u (i ∷ []) w → PathLeads structs t (path ++ i ∷ []) w
leads_on structs t [] u i w h g = subst (λ v. PathLeads structs v (i ∷ []) w) (sym h) g
leads_on structs (ty.named x) (j ∷ path) u i w h g = (h.0, h.1, leads_on structs h.0 path u i w h.2 g)
leads_on structs (ty.array t n) (j ∷ path) u i w h g = (h.0, leads_on structs t path u i w h.1 g)
leads_on structs ty.int (j ∷ path) u i w h g = absurd h
leads_on structs ty.bool (j ∷ path) u i w h g = absurd h
leads_on structs (ty.pointer t) (j ∷ path) u i w h g = absurd h

pub leads_from_on : (structs : List Shape) (types : List Ty) (path : List ℕ) (u : Ty) (i : ℕ) (w : Ty) → LeadsFrom structs types path u → PathLeads structs u (i ∷ []) w → LeadsFrom structs types (path ++ i ∷ []) w
leads_from_on structs types [] u i w h g = absurd h
leads_from_on structs types (j ∷ path) u i w h g = (h.0, h.1, leads_on structs h.0 path u i w h.2 g)

pub points_on : (structs : List Shape) (layout : StoreTyping) (r : Region) (path : List ℕ) (u : Ty) (i : ℕ) (w : Ty) → PointsTo structs layout r path u → PathLeads structs u (i ∷ []) w → PointsTo structs layout r (path ++ i ∷ []) w
points_on structs layout globals path u i w h g = leads_from_on structs layout.globals path u i w h g
points_on structs layout heap path u i w h g = leads_from_on structs layout.objects path u i w h g
points_on structs layout locals path u i w h g = absurd h

module _ (structs : List Shape) (layout : StoreTyping) where
  -- a part that is there
  pub record Has (found : Option Value) (t : Ty) : Type 0 where
    pub value : Value
    pub is : found ≡ Some value
    pub fits : Fits structs layout t value

  pub nth_fits : (ts : List Ty) (vs : Values) (i : ℕ) (t : Ty) → AllFit structs layout ts vs → slice_get ts i ≡ Some t → Has (nth vs i) t
  nth_fits [] empty i t h e = cc
  nth_fits (u ∷ ts) (part v vs) zero t h e = record { value = v; is = refl; fits = let q : u ≡ t = cc in subst (λ w. Fits structs layout w v) q h.0 }
  nth_fits (u ∷ ts) (part v vs) (suc i) t h e = nth_fits ts vs i t h.1 e
  nth_fits [] (part v vs) i t h e = absurd h
  nth_fits (u ∷ ts) empty i t h e = absurd h

  pub get_from : (path : List ℕ) (t : Ty) (o : Option Value) (u : Ty) → Has o u → ((v : Value) → Fits structs layout u v → Has (get v path) t) → Has (option_and_then (λ w. get w path) o) t
  get_from path t o u h f =
      let r = f h.value h.fits in
      record { value = r.value; is = ap (option_and_then (λ w. get w path)) h.is ∙ r.is; fits = r.fits }

  pub get_fits : (t : Ty) (path : List ℕ) (u : Ty) (v : Value) → PathLeads structs t path u → Fits structs layout t v → Has (get v path) u
  get_fits t [] u v l h = record { value = v; is = refl; fits = subst (λ w. Fits structs layout w v) l h }
  get_fits (ty.named x) (i ∷ path) u (group vs) l h = get_from path u (nth vs i) l.0 (nth_fits (types_of (shape_fields structs x)) vs i l.0 h l.1) (λ v g. get_fits l.0 path u v l.2 g)
  get_fits (ty.array t n) (i ∷ path) u (group vs) l h = get_from path u (nth vs i) t (nth_fits (replicate n t) vs i t h (there t n i l.0)) (λ v g. get_fits t path u v l.1 g)
  get_fits (ty.named x) (i ∷ path) u _ l h = absurd h
  get_fits (ty.array t n) (i ∷ path) u _ l h = absurd h
  get_fits ty.int (i ∷ path) u _ l h = absurd l
  get_fits ty.bool (i ∷ path) u _ l h = absurd l
  get_fits (ty.pointer t) (i ∷ path) u _ l h = absurd l

  pub change_fits : (ts : List Ty) (vs : Values) (i : ℕ) (t : Ty) (f : Value → Value) → AllFit structs layout ts vs → slice_get ts i ≡ Some t → ((v : Value) → Fits structs layout t v → Fits structs layout t (f v)) → AllFit structs layout ts (change_nth vs i f)
  change_fits [] empty i t f h e g = h
  change_fits (u ∷ ts) (part v vs) zero t f h e g =
      let q : u ≡ t = cc in
      (subst (λ w. Fits structs layout w (f v)) (sym q) (g v (subst (λ w. Fits structs layout w v) q h.0)), h.1)
  change_fits (u ∷ ts) (part v vs) (suc i) t f h e g = (h.0, change_fits ts vs i t f h.1 e g)
  change_fits [] (part v vs) i t f h e g = absurd h
  change_fits (u ∷ ts) empty i t f h e g = absurd h

  pub put_fits : (t : Ty) (path : List ℕ) (u : Ty) (v x : Value) → PathLeads structs t path u → Fits structs layout t v → Fits structs layout u x → Fits structs layout t (value_with v path x)
  put_fits t [] u v x l h g = subst (λ w. Fits structs layout w x) (sym l) g
  put_fits (ty.named y) (i ∷ path) u (group vs) x l h g = change_fits (types_of (shape_fields structs y)) vs i l.0 (λ w. value_with w path x) h l.1 (λ v k. put_fits l.0 path u v x l.2 k g)
  put_fits (ty.array t n) (i ∷ path) u (group vs) x l h g = change_fits (replicate n t) vs i t (λ w. value_with w path x) h (there t n i l.0) (λ v k. put_fits t path u v x l.1 k g)
  put_fits (ty.named y) (i ∷ path) u _ x l h g = absurd h
  put_fits (ty.array t n) (i ∷ path) u _ x l h g = absurd h
  put_fits ty.int (i ∷ path) u _ x l h g = absurd l
  put_fits ty.bool (i ∷ path) u _ x l h g = absurd l
  put_fits (ty.pointer t) (i ∷ path) u _ x l h g = absurd l

  pub get_parts : (types : List Ty) (path : List ℕ) (u : Ty) (v : Value) → LeadsFrom structs types path u → AreParts structs layout types v → Has (get v path) u
  get_parts types [] u v l h = absurd l
  get_parts types (i ∷ path) u (group vs) l h = get_from path u (nth vs i) l.0 (nth_fits types vs i l.0 h l.1) (λ v g. get_fits l.0 path u v l.2 g)
  get_parts types (i ∷ path) u (int z) l h = absurd h
  get_parts types (i ∷ path) u (bool b) l h = absurd h
  get_parts types (i ∷ path) u null l h = absurd h
  get_parts types (i ∷ path) u (at m) l h = absurd h

  pub put_parts : (types : List Ty) (path : List ℕ) (u : Ty) (v x : Value) → LeadsFrom structs types path u → AreParts structs layout types v → Fits structs layout u x → AreParts structs layout types (value_with v path x)
  put_parts types [] u v x l h g = absurd l
  put_parts types (i ∷ path) u (group vs) x l h g = change_fits types vs i l.0 (λ w. value_with w path x) h l.1 (λ v k. put_fits l.0 path u v x l.2 k g)
  put_parts types (i ∷ path) u (int z) x l h g = absurd h
  put_parts types (i ∷ path) u (bool b) x l h g = absurd h
  put_parts types (i ∷ path) u null x l h g = absurd h
  put_parts types (i ∷ path) u (at m) x l h g = absurd h

  pub joined_fit : (ts us : List Ty) (vs ws : Values) → AllFit structs layout ts vs → AllFit structs layout us ws → AllFit structs layout (ts ++ us) (followed_by vs ws)
  joined_fit [] us empty ws h g = g
  joined_fit (t ∷ ts) us (part v vs) ws h g = (h.0, joined_fit ts us vs ws h.1 g)
  joined_fit [] us (part v vs) ws h g = absurd h
  joined_fit (t ∷ ts) us empty ws h g = absurd h

  -- as many values as types
  pub length_fits : (n : ℕ) (t : Ty) (vs : Values) → AllFit structs layout (replicate n t) vs → count vs ≡ n
  length_fits zero t empty h = refl
  length_fits (suc n) t (part v vs) h = ap suc (length_fits n t vs h.1)
  length_fits zero t (part v vs) h = absurd h
  length_fits (suc n) t empty h = absurd h

-- a layout with more objects
abbrev pub with_more : StoreTyping → List Ty → StoreTyping
with_more layout more = record { globals = layout.globals; objects = layout.objects ++ more }

module _ (structs : List Shape) (layout : StoreTyping) (more : List Ty) where
  pub from_more : (types : List Ty) (path : List ℕ) (t : Ty) → LeadsFrom structs types path t → LeadsFrom structs (types ++ more) path t
  from_more types [] t h = absurd h
  from_more types (i ∷ path) t h = (h.0, get_before types more i h.0 h.1, h.2)

  pub points_more : (r : Region) (path : List ℕ) (t : Ty) → PointsTo structs layout r path t → PointsTo structs (with_more layout more) r path t
  points_more globals path t h = h
  points_more heap path t h = from_more layout.objects path t h
  points_more locals path t h = absurd h

  mutual
    pub fits_more : (t : Ty) (v : Value) → Fits structs layout t v → Fits structs (with_more layout more) t v
    fits_more ty.int (int z) h = h
    fits_more ty.bool (bool b) h = h
    fits_more (ty.pointer t) null h = tt
    fits_more (ty.pointer t) (at l) h = points_more l.region l.path t h
    fits_more (ty.named x) (group vs) h = all_more (types_of (shape_fields structs x)) vs h
    fits_more (ty.array t n) (group vs) h = all_more (replicate n t) vs h
    fits_more _ _ h = absurd h

    pub all_more : (ts : List Ty) (vs : Values) → AllFit structs layout ts vs → AllFit structs (with_more layout more) ts vs
    all_more [] empty h = tt
    all_more (t ∷ ts) (part v vs) h = (fits_more t v h.0, all_more ts vs h.1)
    all_more _ _ h = absurd h

  pub parts_more : (types : List Ty) (v : Value) → AreParts structs layout types v → AreParts structs (with_more layout more) types v
  parts_more types (group vs) h = all_more types vs h
  parts_more types (int z) h = absurd h
  parts_more types (bool b) h = absurd h
  parts_more types null h = absurd h
  parts_more types (at l) h = absurd h
