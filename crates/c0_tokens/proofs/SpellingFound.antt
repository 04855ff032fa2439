-- Looking a spelling up in a table: what is found passes the test, has a byte, and is the same in the code's table and in the definition's.
use Rattle.std.proofs.Common.{◌≡◌, ℕ, ◌<◌, ◌≤◌, Bool, true, false, cond, List, [], ◌∷◌, length, drop, Option, Some, refl, ap, sym, subst, find, map, nat_lt, ◌==◌, ◌&&◌, arith}
use Rattle.std.specs.Prelude.{option_map}
use Rattle.std.specs.List.{list_all, starts_with}
use Rattle.std.proofs.lemmas.Bool.Decides.{Decides-eqb}
use Rattle.std.proofs.lemmas.Bool.{ltb-true}
use Rattle.std.proofs.lemmas.Slice.Eq.{starts_is}
use Rattle.std.proofs.lemmas.List.{length-append}
use Rattle.std.proofs.lemmas.Option.{same_Some, none-some}
use Rattle.c0_tokens.specs.Spelling.{Spelling, marks}

cond_map : {X Y : Type 0} (v : X → Y) (b : Bool) (x : X) (o : Option X) → option_map v (cond b (Some x) o) ≡ cond b (Some (v x)) (option_map v o)
cond_map v true x o = refl
cond_map v false x o = refl

-- the first that passes, seen through a view
pub find_viewed : {X Y : Type 0} (v : X → Y) (p : Y → Bool) (xs : List X) → option_map v (find (λ x. p (v x)) xs) ≡ find p (map v xs)
find_viewed v p [] = refl
find_viewed v p (x ∷ xs) = rw (cond_map v (p (v x)) x (find (λ y. p (v y)) xs), find_viewed v p xs) refl

-- what is found is this element or a later one
found_case : {X : Type 0} (P : X → Type 0) (b : Bool) (y x : X) (o : Option X) → cond b (Some y) o ≡ Some x → (b ≡ true → P y) → (o ≡ Some x → P x) → P x
found_case P true y x o e here there = subst P (same_Some y x e) (here refl)
found_case P false y x o e here there = there e

-- what is found passes the test
pub find_passes : {X : Type 0} (p : X → Bool) (xs : List X) (x : X) → find p xs ≡ Some x → p x ≡ true
find_passes p [] x e = absurd (none-some x e)
find_passes p (y ∷ ys) x e = found_case (λ z. p z ≡ true) (p y) y x (find p ys) e (λ h. h) (find_passes p ys x)

pub both_left : (a b : Bool) → (a && b) ≡ true → a ≡ true
both_left true b e = refl
both_left false b e = e

pub both_right : (a b : Bool) → (a && b) ≡ true → b ≡ true
both_right true b e = e
both_right false b e = absurd cc

-- what is found passes each test that all elements pass
pub find_among : {X : Type 0} (p q : X → Bool) (xs : List X) (x : X) → list_all q xs ≡ true → find p xs ≡ Some x → q x ≡ true
find_among p q [] x all e = absurd (none-some x e)
find_among p q (y ∷ ys) x all e =
    found_case (λ z. q z ≡ true) (p y) y x (find p ys) e (λ h. both_left (q y) (list_all q ys) all) (find_among p q ys x (both_right (q y) (list_all q ys) all))

-- whether a spelling has a byte
abbrev has_byte : Spelling → Bool
has_byte s = nat_lt 0 (length s.0)

marks_have_bytes : list_all has_byte marks ≡ true
unfolding marks
marks_have_bytes = refl

-- a mark has a byte
pub mark_has_byte : (p : Spelling → Bool) (s : Spelling) → find p marks ≡ Some s → 0 < length s.0
mark_has_byte p s e = ltb-true 0 (length s.0) (find_among p has_byte marks s marks_have_bytes e)

-- what stands at the front of a text is no longer than it
pub front_within : (text front : List ℕ) → starts_with (λ a b. a == b) text front ≡ true → length front ≤ length text
front_within text front e =
    let whole = (starts_is Decides-eqb text front true (sym e)).0 refl in
    omega (arith, ap length whole, length-append front (drop (length front) text))
