-- What a search by name finds: the element at its number, which has the name.
use Rattle.std.proofs.Common.{◌≡◌, inl, inr, ℕ, zero, suc, ◌+◌, ◌<◌, List, [], ◌∷◌, length, map, Option, Some, None, sym, ap, ◌∙◌, subst, arith}
use Rattle.std.specs.Prelude.{slice_get}
use Rattle.std.specs.Str.{bytes_eq}
use Rattle.std.proofs.lemmas.Bool.{cases_Bool, cond-true, cond-false}
use Rattle.std.proofs.lemmas.Slice.Eq.{bytes_eq-Decides}
use Rattle.c0_meaning.specs.Env.{first_named}

-- an element of a name, at a place, where the first place has the number k
pub record IsFound {A : Type 0} (name : A → List ℕ) (xs : List A) (text : List ℕ) (k n : ℕ) (a : A) : Type 0 where
  pub place : ℕ
  pub numbered : n ≡ k + place
  pub below : place < length xs
  pub got : slice_get xs place ≡ Some a
  pub same : name a ≡ text

or_else : {B : Type 0} → B → Option B → B
or_else d None = d
or_else d (Some b) = b

some_same : {B : Type 0} (x y : B) → Some x ≡ Some y → x ≡ y
unfolding or_else
some_same x y h = ap (or_else x) h

pub found : {A : Type 0} (name : A → List ℕ) (xs : List A) (text : List ℕ) (k n : ℕ) (a : A) → first_named name text k xs ≡ Some (n, a) → IsFound name xs text k n a
found name [] text k n a h = cc
found {A} name (x ∷ rest) text k n a h =
    elim (cases_Bool (bytes_eq (name x) text)) [
      | inl e ↦
          let v : ◌≡◌ {A = Option (ℕ × A)} (Some (k, x)) (Some (n, a)) = sym (cond-true (bytes_eq (name x) text) (Some (k, x)) (first_named name text (suc k) rest) e) ∙ h in
          let pair : ◌≡◌ {A = ℕ × A} (k, x) (n, a) = some_same {B = ℕ × A} (k, x) (n, a) v in
          let w : k ≡ n = ap (λ (p : ℕ × A). p.0) pair in
          let y : x ≡ a = ap (λ (p : ℕ × A). p.1) pair in
          record { place = 0; numbered = omega arith; below = omega arith; got = ap Some y; same = sym (ap name y) ∙ (bytes_eq-Decides (name x) text).0 e }
      | inr e ↦
          let v : ◌≡◌ {A = Option (ℕ × A)} (first_named name text (suc k) rest) (Some (n, a)) = sym (cond-false (bytes_eq (name x) text) (Some (k, x)) (first_named name text (suc k) rest) e) ∙ h in
          let f = found name rest text (suc k) n a v in
          record { place = suc f.place; numbered = omega arith; below = omega arith; got = f.got; same = f.same }
    ]

-- the number of what is found is its place
pub found_there : {A : Type 0} (name : A → List ℕ) (xs : List A) (text : List ℕ) (n : ℕ) (a : A) → first_named name text 0 xs ≡ Some (n, a) → slice_get xs n ≡ Some a
found_there name xs text n a h =
    let f = found name xs text 0 n a h in
    let e : f.place ≡ n = omega arith in
    subst (λ (i : ℕ). slice_get xs i ≡ Some a) e f.got

pub found_below : {A : Type 0} (name : A → List ℕ) (xs : List A) (text : List ℕ) (n : ℕ) (a : A) → first_named name text 0 xs ≡ Some (n, a) → n < length xs
found_below name xs text n a h = let f = found name xs text 0 n a h in omega arith

pub found_name : {A : Type 0} (name : A → List ℕ) (xs : List A) (text : List ℕ) (n : ℕ) (a : A) → first_named name text 0 xs ≡ Some (n, a) → name a ≡ text
found_name name xs text n a h = (found name xs text 0 n a h).same

-- an element of a list that was made of another
pub got_mapped : {A B : Type 0} (f : A → B) (xs : List A) (n : ℕ) (a : A) → slice_get xs n ≡ Some a → slice_get (map f xs) n ≡ Some (f a)
got_mapped f [] n a h = cc
got_mapped {A} f (x ∷ xs) zero a h = let e : x ≡ a = cc in ap (λ (y : A). Some (f y)) e
got_mapped f (x ∷ xs) (suc n) a h = got_mapped f xs n a h

-- an element there is below the length
pub got_below : {A : Type 0} (xs : List A) (n : ℕ) (a : A) → slice_get xs n ≡ Some a → n < length xs
got_below [] n a h = cc
got_below (x ∷ xs) zero a h = omega arith
got_below (x ∷ xs) (suc n) a h = let e = got_below xs n a h in omega arith
