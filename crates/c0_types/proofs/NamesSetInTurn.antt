-- Names that are set one after the other: their numbers, and those that are set before in source order.
use Rattle.std.proofs.Common.{◌≡◌, ℕ, suc, ◌+◌, ◌<◌, ◌-◌, Bool, true, false, ◌||◌, cond, List, [], ◌∷◌, map, length, drop, length-drop, Option, Some, None, is_some, bytes_eq, refl, sym, ap, ◌∙◌, add-one, arith}
use Rattle.std.proofs.lemmas.List.{length-map}
use Rattle.std.specs.Option.{option_or, option_map}
use Rattle.c0_tree.specs.Tree.{CName}
use Rattle.c0_meaning.specs.Env.{first_named}
use Rattle.c0_meaning.specs.Names.{is_among, in_source_order}
use Rattle.c0_name_check.specs.Names.{number_named}
use Rattle.c0_types.specs.SourceOrder.{comes_next}

none_after : (o : Option ℕ) → option_or o None ≡ o
none_after None = refl
none_after (Some v) = refl

set_before : (b : Bool) (o : Option ℕ) (n : ℕ) (rest : Option ℕ) → option_or (option_or o (cond b (Some n) None)) rest ≡ option_or o (cond b (Some n) rest)
set_before b (Some v) n rest = refl
set_before true None n rest = refl
set_before false None n rest = refl

module _ {A : Type 0} (name : A → List ℕ) where
  first_number : (b : Bool) (n : ℕ) (x : A) (rest : Option (ℕ × A)) → option_map (λ f. f.0) (cond b (Some (n, x)) rest) ≡ cond b (Some n) (option_map (λ f. f.0) rest)
  first_number true n x rest = refl
  first_number false n x rest = refl

  -- the numbers of names, one more being set
  pub number_step : (old new : Option ℕ) (x : A) (rest : List A) (n : ℕ) (q text : List ℕ) → text ≡ name x
      → new ≡ option_or old (cond (bytes_eq text q) (Some n) None)
      → option_or new (number_named name q (n + 1) rest) ≡ option_or old (number_named name q n (x ∷ rest))
  number_step old new x rest n q text same e =
      ap (λ (o : Option ℕ). option_or o (number_named name q (n + 1) rest)) (e ∙ ap (λ (t : List ℕ). option_or old (cond (bytes_eq t q) (Some n) None)) same)
      ∙ (ap (λ (k : ℕ). option_or (option_or old (cond (bytes_eq (name x) q) (Some n) None)) (number_named name q k rest)) (add-one n)
      ∙ (set_before (bytes_eq (name x) q) old n (number_named name q (suc n) rest)
      ∙ ap (option_or old) (sym (first_number (bytes_eq (name x) q) n x (first_named name q (suc n) rest)))))

  -- at the end all are set
  pub number_end : (told all : Option ℕ) (rest : List A) (n : ℕ) (q : List ℕ) → rest ≡ [] → option_or told (number_named name q n rest) ≡ all → told ≡ all
  number_end told all rest n q e h = sym (none_after told) ∙ (sym (ap (λ (l : List A). option_or told (number_named name q n l)) e) ∙ h)

  -- a name has a number exactly where it is among the names
  pub numbered_among : (q : List ℕ) (k : ℕ) (xs : List A) → is_some (number_named name q k xs) ≡ is_among (map name xs) q
  numbered_among q k [] = refl
  numbered_among q k (x ∷ xs) = by_test (bytes_eq (name x) q) (numbered_among q (suc k) xs)
    where
      by_test : (b : Bool) → is_some (number_named name q (suc k) xs) ≡ is_among (map name xs) q
          → is_some (option_map (λ (f : ℕ × A). f.0) (cond b (Some (k, x)) (first_named name q (suc k) xs))) ≡ (b || is_among (map name xs) q)
      by_test true h = refl
      by_test false h = h

-- the next name in source order is the first of the others
pub other_next : (names : List CName) (y : CName) (others : List CName) → comes_next names (y ∷ others) ≡ true
    → in_source_order names (y ∷ others) ≡ y ∷ in_source_order names others
other_next [] y others h = refl
other_next (x ∷ names) y others h = ap (λ (b : Bool). cond b (y ∷ in_source_order (x ∷ names) others) (x ∷ in_source_order names (y ∷ others))) h

-- or else the first of these names
pub own_next : (x : CName) (names others : List CName) → comes_next (x ∷ names) others ≡ false
    → in_source_order (x ∷ names) others ≡ x ∷ in_source_order names others
own_next x names [] h = refl
own_next x names (y ∷ others) h = ap (λ (b : Bool). cond b (y ∷ in_source_order (x ∷ names) others) (x ∷ in_source_order names (y ∷ others))) h

-- the list that has the next name is not at its end
pub others_left : (names others : List CName) → comes_next names others ≡ true → 0 < length others
others_left names [] h = cc
others_left names (y ∷ others) h = omega arith

pub own_left : (names others : List CName) → comes_next names others ≡ false → 0 < length names + length others → 0 < length names
own_left [] [] h some = some
own_left [] (y ∷ others) h some = cc
own_left (x ∷ names) others h some = omega arith

-- how many names are left from an index on
pub length_left : {T A B : Type 0} (view : T → A) (name : A → B) (xs : List T) (i : ℕ) → length (map name (map view (drop i xs))) ≡ length xs - i
length_left view name xs i = length-map (map view (drop i xs)) name ∙ (length-map (drop i xs) view ∙ length-drop i xs)
