-- Paths, and one part more.
use Rattle.std.specs.Prelude.{slice_get, replicate}
use Rattle.std.proofs.Common.{◌≡◌, ℕ, zero, suc, ◌<◌, List, [], ◌∷◌, ◌++◌, Some, refl, sym, ap, subst, arith}
use Rattle.c0_meaning.specs.Ty.{Ty}
use Rattle.c0_meaning.specs.Ty as ty
use Rattle.c0_meaning.specs.Env.{Shape, Typed}
use Rattle.c0_meaning.specs.Value.{Region, globals, heap, locals, Values, empty, part, count}
use Rattle.c0_meaning.specs.TypedState.{StoreTyping, types_of, PathLeads, LeadsFrom, PointsTo, AllFit}

pub there : (t : Ty) (n i : ℕ) → i < n → slice_get (replicate n t) i ≡ Some t
there t zero i h = absurd (omega (arith, h))
there t (suc n) zero h = refl
there t (suc n) (suc i) h = there t n i (omega (arith, h))

leads_on : (structs : List Shape) (t : Ty) (path : List ℕ) (u : Ty) (i : ℕ) (w : Ty) → PathLeads structs t path u → PathLeads structs u (i ∷ []) w
    → PathLeads structs t (path ++ i ∷ []) w
leads_on structs t [] u i w h g = subst (λ v. PathLeads structs v (i ∷ []) w) (sym h) g
leads_on structs (ty.named x) (j ∷ path) u i w h g = (h.0, h.1, leads_on structs h.0 path u i w h.2 g)
leads_on structs (ty.array t n) (j ∷ path) u i w h g = (h.0, leads_on structs t path u i w h.1 g)
leads_on structs ty.int (j ∷ path) u i w h g = absurd h
leads_on structs ty.bool (j ∷ path) u i w h g = absurd h
leads_on structs (ty.pointer t) (j ∷ path) u i w h g = absurd h

pub leads_from_on : (structs : List Shape) (types : List Ty) (path : List ℕ) (u : Ty) (i : ℕ) (w : Ty) → LeadsFrom structs types path u
    → PathLeads structs u (i ∷ []) w → LeadsFrom structs types (path ++ i ∷ []) w
leads_from_on structs types [] u i w h g = absurd h
leads_from_on structs types (j ∷ path) u i w h g = (h.0, h.1, leads_on structs h.0 path u i w h.2 g)

pub points_on : (structs : List Shape) (layout : StoreTyping) (r : Region) (path : List ℕ) (u : Ty) (i : ℕ) (w : Ty) → PointsTo structs layout r path u
    → PathLeads structs u (i ∷ []) w → PointsTo structs layout r (path ++ i ∷ []) w
points_on structs layout globals path u i w h g = leads_from_on structs layout.globals path u i w h g
points_on structs layout heap path u i w h g = leads_from_on structs layout.objects path u i w h g
points_on structs layout locals path u i w h g = absurd h

-- as many values as types
pub length_fits : (structs : List Shape) (layout : StoreTyping) (n : ℕ) (t : Ty) (vs : Values) → AllFit structs layout (replicate n t) vs → count vs ≡ n
length_fits structs layout zero t empty h = refl
length_fits structs layout (suc n) t (part v vs) h = ap suc (length_fits structs layout n t vs h.1)
length_fits structs layout zero t (part v vs) h = absurd h
length_fits structs layout (suc n) t empty h = absurd h

-- the type of a declaration of a number
pub typed_there : (decls : List Typed) (n : ℕ) (d : Typed) → slice_get decls n ≡ Some d → slice_get (types_of decls) n ≡ Some d.ty
typed_there [] n d e = absurd (cc)
typed_there (a ∷ decls) zero d e = let q : a ≡ d = cc in ap (λ x. Some x.ty) q
typed_there (a ∷ decls) (suc n) d e = typed_there decls n d e
