-- Values that fit their types, with a part changed, and with more objects.
use Rattle.std.proofs.Common.{◌≡◌, ℕ, zero, suc, List, [], ◌∷◌, ◌++◌, Some, sym, subst}
use Rattle.std.specs.Prelude.{slice_get, replicate}
use Rattle.c0_meaning.specs.Ty.{Ty}
use Rattle.c0_meaning.specs.Ty as ty
use Rattle.c0_meaning.specs.Env.{Shape}
use Rattle.c0_meaning.specs.Words.{shape_fields}
use Rattle.c0_meaning.specs.Value.{Region, globals, heap, locals, Value, int, bool, null, at, group, Values, empty, part, change_nth, value_with}
use Rattle.c0_meaning.specs.TypedState.{StoreTyping, types_of, PathLeads, LeadsFrom, PointsTo, Fits, AllFit, AreParts}
use Rattle.c0_expr_runs.specs.Laws.{with_more}
use Rattle.c0_expr_runs.proofs.OnePartMore.{there}

pub get_before : (types more : List Ty) (i : ℕ) (t : Ty) → slice_get types i ≡ Some t → slice_get (types ++ more) i ≡ Some t
get_before [] more i t e = cc
get_before (u ∷ types) more zero t e = e
get_before (u ∷ types) more (suc i) t e = get_before types more i t e

module _ (structs : List Shape) (layout : StoreTyping) where
  pub change_fits : (ts : List Ty) (vs : Values) (i : ℕ) (t : Ty) (f : Value → Value) → AllFit structs layout ts vs → slice_get ts i ≡ Some t
      → ((v : Value) → Fits structs layout t v → Fits structs layout t (f v)) → AllFit structs layout ts (change_nth vs i f)
  change_fits [] empty i t f h e g = h
  change_fits (u ∷ ts) (part v vs) zero t f h e g =
      let q : u ≡ t = cc in
      (subst (λ w. Fits structs layout w (f v)) (sym q) (g v (subst (λ w. Fits structs layout w v) q h.0)), h.1)
  change_fits (u ∷ ts) (part v vs) (suc i) t f h e g = (h.0, change_fits ts vs i t f h.1 e g)
  change_fits [] (part v vs) i t f h e g = absurd h
  change_fits (u ∷ ts) empty i t f h e g = absurd h

  pub put_fits : (t : Ty) (path : List ℕ) (u : Ty) (v x : Value) → PathLeads structs t path u → Fits structs layout t v → Fits structs layout u x
      → Fits structs layout t (value_with v path x)
  put_fits t [] u v x l h g = subst (λ w. Fits structs layout w x) (sym l) g
  put_fits (ty.named y) (i ∷ path) u (group vs) x l h g = change_fits (types_of (shape_fields structs y)) vs i l.0 (λ w. value_with w path x) h l.1 (λ v k. put_fits l.0 path u v x l.2 k g)
  put_fits (ty.array t n) (i ∷ path) u (group vs) x l h g = change_fits (replicate n t) vs i t (λ w. value_with w path x) h (there t n i l.0) (λ v k. put_fits t path u v x l.1 k g)
  put_fits (ty.named y) (i ∷ path) u _ x l h g = absurd h
  put_fits (ty.array t n) (i ∷ path) u _ x l h g = absurd h
  put_fits ty.int (i ∷ path) u _ x l h g = absurd l
  put_fits ty.bool (i ∷ path) u _ x l h g = absurd l
  put_fits (ty.pointer t) (i ∷ path) u _ x l h g = absurd l

  pub put_parts : (types : List Ty) (path : List ℕ) (u : Ty) (v x : Value) → LeadsFrom structs types path u → AreParts structs layout types v
      → Fits structs layout u x → AreParts structs layout types (value_with v path x)
  put_parts types [] u v x l h g = absurd l
  put_parts types (i ∷ path) u (group vs) x l h g = change_fits types vs i l.0 (λ w. value_with w path x) h l.1 (λ v k. put_fits l.0 path u v x l.2 k g)
  put_parts types (i ∷ path) u (int z) x l h g = absurd h
  put_parts types (i ∷ path) u (bool b) x l h g = absurd h
  put_parts types (i ∷ path) u null x l h g = absurd h
  put_parts types (i ∷ path) u (at m) x l h g = absurd h

module _ (structs : List Shape) (layout : StoreTyping) (more : List Ty) where
  pub from_more : (types : List Ty) (path : List ℕ) (t : Ty) → LeadsFrom structs types path t → LeadsFrom structs (types ++ more) path t
  from_more types [] t h = absurd h
  from_more types (i ∷ path) t h = (h.0, get_before types more i h.0 h.1, h.2)

  pub points_more : (r : Region) (path : List ℕ) (t : Ty) → PointsTo structs layout r path t → PointsTo structs (with_more layout more) r path t
  points_more globals path t h = h
  points_more heap path t h = from_more layout.objects path t h
  points_more locals path t h = absurd h

  mutual
    pub fits_more : (t : Ty) (v : Value) → Fits structs layout t v → Fits structs (with_more layout more) t v
    fits_more ty.int (int z) h = h
    fits_more ty.bool (bool b) h = h
    fits_more (ty.pointer t) null h = tt
    fits_more (ty.pointer t) (at l) h = points_more l.region l.path t h
    fits_more (ty.named x) (group vs) h = all_more (types_of (shape_fields structs x)) vs h
    fits_more (ty.array t n) (group vs) h = all_more (replicate n t) vs h
    fits_more _ _ h = absurd h

    pub all_more : (ts : List Ty) (vs : Values) → AllFit structs layout ts vs → AllFit structs (with_more layout more) ts vs
    all_more [] empty h = tt
    all_more (t ∷ ts) (part v vs) h = (fits_more t v h.0, all_more ts vs h.1)
    all_more _ _ h = absurd h

  pub parts_more : (types : List Ty) (v : Value) → AreParts structs layout types v → AreParts structs (with_more layout more) types v
  parts_more types (group vs) h = all_more types vs h
  parts_more types (int z) h = absurd h
  parts_more types (bool b) h = absurd h
  parts_more types null h = absurd h
  parts_more types (at l) h = absurd h
