-- One function more, and what is sized of a function at a place.
use Rattle.std.proofs.Common.{◌≡◌, ℕ, zero, suc, ◌<◌, List, [], ◌∷◌, ◌++◌, length, map, take, get_or, refl, sym, ap, ◌∙◌, subst, arith, Vec, Global}
use Rattle.std.specs.Prelude.{Some, slice_get}
use Rattle.std.specs.List.{All}
use Rattle.std.specs.Vec.{vec_len}
use Rattle.std.proofs.lemmas.List.{get_or-map, length-map}
use Rattle.c0_tree.specs.declared.tree.Decl.{Decl}
use Rattle.c0_tree.specs.declared.tree.Function.{Function}
use Rattle.c0_tree.specs.declared.tree.Unit.{Unit as Source}
use Rattle.c0_tree.specs.Tree.{CFunction}
use Rattle.c0_tree.specs.View.{decl_view, function_view, unit_view}
use Rattle.c0_meaning.specs.TypeAt.{env_in}
use Rattle.c0_typed.specs.declared.seen_function.SeenFunction.{SeenFunction}
use Rattle.c0_typed.specs.declared.seen_unit.SeenUnit.{SeenUnit}
use Rattle.c0_typed.specs.Seen.{env_at}
use Rattle.c0_typed.specs.SeenEnv.{env_seen}

-- what stands for those before a number, and what stands for the one of that number, stand for those before the next
pub one_more : {A B : Type 0} (g : A → B) (fs : List A) (n k : ℕ) (ys : List B) (y : B) → k ≡ suc n → n < length fs → ys ≡ map g (take n fs)
    → ((f : A) → slice_get fs n ≡ Some f → y ≡ g f) → ys ++ y ∷ [] ≡ map g (take k fs)
one_more g fs n k ys y e below so h = ap (λ (l : List _). l ++ y ∷ []) so ∙ more fs n below h ∙ ap (λ (m : ℕ). map g (take m fs)) (sym e)
  where
    more : (fs : List _) (n : ℕ) → n < length fs → ((f : _) → slice_get fs n ≡ Some f → y ≡ g f) → map g (take n fs) ++ y ∷ [] ≡ map g (take (suc n) fs)
    more [] n below h = absurd (omega arith)
    more (f ∷ fs) zero below h = ap (λ z. z ∷ []) (h f refl)
    more (f ∷ fs) (suc n) below h = ap (λ l. g f ∷ l) (more fs n (omega arith) h)

listed : (fs : List Function) (n : ℕ) (f : Function) → n < length (map function_view fs) → f ≡ get_or fs n f → slice_get (map function_view fs) n ≡ Some (function_view f)
listed [] n f h e = absurd (omega arith)
listed (x ∷ fs) zero f h e = ap (λ y. Some (function_view y)) (sym e)
listed (x ∷ fs) (suc n) f h e = listed fs n f (omega (arith, h)) e

-- the function of a number among those of a unit, as it is seen
pub found : (u v : Source) (n : ℕ) (f : Function) → n < length (unit_view u).functions → v ≡ u → f ≡ get_or v.functions.items n f → slice_get (unit_view u).functions n ≡ Some (function_view f)
found u v n f h same e = listed u.functions.items n f h (e ∙ ap (λ (x : Source). get_or x.functions.items n f) same)

pub counted : (n : ℕ) (params : Vec Decl Global) → n ≡ vec_len params → n ≡ length (map decl_view params.items)
counted n params e = omega (arith, e, length-map params.items decl_view)

pub same_some : (x y : CFunction) → Some x ≡ Some y → x ≡ y
same_some x y e = cc

-- what names stand for in a function that is read
pub env_is : (x : SeenFunction) (unit : SeenUnit) (n : ℕ) (f : CFunction) → x.unit.now ≡ unit → x.number ≡ n → slice_get (unit_view unit.unit.now).functions n ≡ Some f
    → env_seen x ≡ env_in (unit_view unit.unit.now) f
env_is x unit n f a b h =
    ap (λ (u : SeenUnit). env_at (unit_view u.unit.now) (slice_get (unit_view u.unit.now).functions x.number)) a
    ∙ ap (λ (k : ℕ). env_at (unit_view unit.unit.now) (slice_get (unit_view unit.unit.now).functions k)) b ∙ ap (env_at (unit_view unit.unit.now)) h

-- what holds of all that is seen of a list holds of what is seen of an element
pub all_at : {A B : Type 0} (P : B → Type 0) (f : A → B) (xs : List A) (i : ℕ) (d : A) → All P (map f xs) → i < length xs → P (f (get_or xs i d))
all_at P f xs i d h below =
    let len : length (map f xs) ≡ length xs = length-map xs f in
    subst P (get_or-map f xs i d (f d) below) (h i (f d) (omega arith))
