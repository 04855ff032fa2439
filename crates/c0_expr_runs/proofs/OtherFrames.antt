-- Typed values stand as before where another function runs, and where there are more objects: no value points to a variable.
use Rattle.std.specs.Prelude.{slice_get, replicate, unwrap_or}
use Rattle.std.proofs.Common.{◌≡◌, ℕ, zero, suc, ◌+◌, ◌*◌, true, List, [], ◌∷◌, ◌++◌, Some, refl, sym, ap, ap₂, ◌∙◌, subst}
use Rattle.c0_meaning.specs.Ty.{Ty, is_scalar}
use Rattle.c0_meaning.specs.Ty as ty
use Rattle.c0_meaning.specs.Env.{Shape}
use Rattle.c0_meaning.specs.Words.{shape_fields, words}
use Rattle.c0_meaning.specs.Sizes.{words_before}
use Rattle.c0_meaning.specs.Addresses.{words_to, words_to_part}
use Rattle.c0_meaning.specs.Value.{Region, globals, heap, locals, Value, int, bool, null, at, group, Values, empty, part}
use Rattle.c0_meaning.specs.TypedState.{types_of, LeadsFrom, PointsTo, Fits, AllFit, AreParts}
use Rattle.c0_expr_code.specs.Scope.{Scope}
use Rattle.c0_expr_runs.specs.Bases.{Bases, location_word, word_of_scalar, Held, AllHeld, RegionHeld}
use Rattle.c0_expr_runs.specs.Relation.{layout}
use Rattle.c0_expr_runs.specs.Laws.{IsLater}
use Rattle.c0_expr_runs.proofs.FittingParts.{get_before}

before_more : (structs : List Shape) (types more : List Ty) (i : ℕ) (t : Ty) → slice_get types i ≡ Some t
    → words_before structs (types ++ more) i ≡ words_before structs types i
before_more structs [] more i t e = absurd (cc)
before_more structs (u ∷ types) more zero t e = refl
before_more structs (u ∷ types) more (suc i) t e = ap (λ n. words structs u + n) (before_more structs types more i t e)

to_more : (structs : List Shape) (types more : List Ty) (path : List ℕ) (t : Ty) → LeadsFrom structs types path t
    → words_to_part structs (types ++ more) path ≡ words_to_part structs types path
to_more structs types more [] t l = absurd l
to_more structs types more (i ∷ path) t l =
    let e : slice_get (types ++ more) i ≡ slice_get types i = get_before types more i l.0 l.1 ∙ sym l.1 in
    ap₂ (λ m n. m + n) (before_more structs types more i l.0 l.1) (ap (λ o. words_to structs (unwrap_or o ty.int) path) e)

module _ (sc : Scope) (p : Bases) (other : Scope) (q : Bases) (later : IsLater sc p other q) (m : ℕ → ℕ) where
  word_at_same : (g : Region) (path : List ℕ) (t : Ty) → PointsTo sc.env.structs (layout sc p) g path t
      → location_word other q (record { region = g; path = path }) ≡ location_word sc p (record { region = g; path = path })
  word_at_same globals path t h = ap₂ (λ a b. a + b) later.globals (ap₂ (λ s ds. words_to_part s (types_of ds) path) later.structs later.global_types)
  word_at_same heap path t h = ap₂ (λ a b. a + b) later.heap (ap₂ (λ s ts. words_to_part s ts path) later.structs later.objects.1 ∙ to_more sc.env.structs p.objects later.objects.0 path t h)
  word_at_same locals path t h = absurd h

  word_same : (t : Ty) (v : Value) → Fits sc.env.structs (layout sc p) t v → is_scalar t ≡ true → word_of_scalar other q v ≡ word_of_scalar sc p v
  word_same ty.int (int z) f s = refl
  word_same ty.bool (bool b) f s = refl
  word_same (ty.pointer t) null f s = refl
  word_same (ty.pointer t) (at l) f s = ap (λ n. 4 * n) (word_at_same l.region l.path t f)
  word_same (ty.named x) v f s = absurd (cc)
  word_same (ty.array t n) v f s = absurd (cc)
  word_same _ _ f s = absurd f

  mutual
    held : (a : ℕ) (t : Ty) (v : Value) → Fits sc.env.structs (layout sc p) t v → Held sc p m a t v → Held other q m a t v
    held a (ty.named x) (group vs) f h = subst (λ s. AllHeld other q m a (types_of (shape_fields s x)) vs) (sym later.structs) (all_held a (types_of (shape_fields sc.env.structs x)) vs f h)
    held a (ty.array t n) (group vs) f h = all_held a (replicate n t) vs f h
    held a ty.int v f h = h ∙ sym (word_same ty.int v f refl)
    held a ty.bool v f h = h ∙ sym (word_same ty.bool v f refl)
    held a (ty.pointer t) v f h = h ∙ sym (word_same (ty.pointer t) v f refl)
    held a (ty.named x) _ f h = absurd h
    held a (ty.array t n) _ f h = absurd h

    all_held : (a : ℕ) (ts : List Ty) (vs : Values) → AllFit sc.env.structs (layout sc p) ts vs → AllHeld sc p m a ts vs → AllHeld other q m a ts vs
    all_held a [] empty f h = tt
    all_held a (t ∷ ts) (part v vs) f h = (held a t v f.0 h.0, subst (λ s. AllHeld other q m (a + words s t) ts vs) (sym later.structs) (all_held (a + words sc.env.structs t) ts vs f.1 h.1))
    all_held a [] (part v vs) f h = absurd h
    all_held a (t ∷ ts) empty f h = absurd h

  pub region : (a : ℕ) (ts : List Ty) (v : Value) → AreParts sc.env.structs (layout sc p) ts v → RegionHeld sc p m a ts v
      → RegionHeld other q m a ts v
  region a ts (group vs) f h = all_held a ts vs f h
  region a ts (int z) f h = absurd h
  region a ts (bool b) f h = absurd h
  region a ts null f h = absurd h
  region a ts (at l) f h = absurd h

  pub scalar : (t : Ty) (v : Value) → Fits sc.env.structs (layout sc p) t v → is_scalar t ≡ true → word_of_scalar other q v ≡ word_of_scalar sc p v
  scalar t v f s = word_same t v f s
