-- A name that has a number in a list stands there: the element of that number is the first of the name.
use Rattle.std.proofs.Common.{◌≡◌, ℕ, suc, ◌+◌, ◌<◌, Bool, true, false, if◌then◌else◌, List, [], ◌∷◌, ◌++◌, ◌-◌, ◌≤◌, length, map, Some, get_or, refl, sym, ap, ◌∙◌, bytes_eq, arith}
use Rattle.std.proofs.lemmas.List.{map-append, length-append, get_or_append_left, get_or-append_right}
use Rattle.std.specs.Option.{option_map}
use Rattle.c0_meaning.specs.Env.{first_named}
use Rattle.c0_name_check.specs.Names.{number_named}

module _ {T A : Type 0} (view : T → A) (name : A → List ℕ) (text : List ℕ) where
  -- the element with the number n, counted from k on
  record At (k n : ℕ) (list : List T) : Type 0 where
    index : ℕ
    counted : n ≡ k + index
    within : index < length list
    there : (d : T) → first_named name text k (map view list) ≡ Some (n, view (get_or list index d))

  at : (k n : ℕ) (list : List T) → number_named name text k (map view list) ≡ Some n → At k n list
  at k n [] h = cc
  at k n (t ∷ list) h = by_test (bytes_eq (name (view t)) text) refl h (at (suc k) n list)
    where
      same : {m n : ℕ} → Some m ≡ Some n → m ≡ n
      same e = cc

      by_test : (b : Bool) → bytes_eq (name (view t)) text ≡ b
          → option_map (λ (found : ℕ × A). found.0) (if b then Some (k, view t) else first_named name text (suc k) (map view list)) ≡ Some n
          → (number_named name text (suc k) (map view list) ≡ Some n → At (suc k) n list) → At k n (t ∷ list)
      by_test true e h more = record {
        index = 0;
        counted = let s : k ≡ n = same h in omega (arith, s);
        within = omega arith;
        there = λ d. ap (λ b. if b then Some (k, view t) else first_named name text (suc k) (map view list)) e ∙ ap (λ m. Some (m, view t)) (same h);
      }
      by_test false e h more = let w = more h in record {
        index = suc w.index;
        counted = let c = w.counted in omega (arith, c);
        within = let c = w.within in omega (arith, c);
        there = λ d. ap (λ b. if b then Some (k, view t) else first_named name text (suc k) (map view list)) e ∙ w.there d;
      }

  pub number_within : (n : ℕ) (list : List T) → number_named name text 0 (map view list) ≡ Some n → n < length list
  number_within n list h = let w = at 0 n list h in let c = w.counted in let l = w.within in omega (arith, c, l)

  pub first_numbered_or : (n : ℕ) (list : List T) (d : T) → number_named name text 0 (map view list) ≡ Some n
      → first_named name text 0 (map view list) ≡ Some (n, view (get_or list n d))
  first_numbered_or n list d h =
      let w = at 0 n list h in
      let same : w.index ≡ n = equal w.index w.counted in
      w.there d ∙ ap (λ i. Some (n, view (get_or list i d))) same
    where
      equal : (i : ℕ) → n ≡ 0 + i → i ≡ n
      equal i c = omega (arith, c)

  pub first_numbered : (n : ℕ) (list : List T) (x : T) → number_named name text 0 (map view list) ≡ Some n → x ≡ get_or list n x
      → first_named name text 0 (map view list) ≡ Some (n, view x)
  first_numbered n list x h e = first_numbered_or n list x h ∙ ap (λ y. Some (n, view y)) (sym e)

-- The same of two lists, one after the other.
module _ {T A : Type 0} (view : T → A) (name : A → List ℕ) (text : List ℕ) (n : ℕ) (xs ys : List T)
    (h : number_named name text 0 (map view xs ++ map view ys) ≡ Some n) where
  joined : number_named name text 0 (map view (xs ++ ys)) ≡ Some n
  joined = ap (number_named name text 0) (map-append view xs ys) ∙ h

  pub second_within : length xs ≤ n → n - length xs < length ys
  second_within k = let w = number_within view name text n (xs ++ ys) joined in let l = length-append xs ys in omega (arith, w, l, k)

  found : (d : T) → first_named name text 0 (map view xs ++ map view ys) ≡ Some (n, view (get_or (xs ++ ys) n d))
  found d = sym (ap (first_named name text 0) (map-append view xs ys)) ∙ first_numbered_or view name text n (xs ++ ys) d joined

  pub first_of_two : (d : T) → n < length xs → first_named name text 0 (map view xs ++ map view ys) ≡ Some (n, view (get_or xs n d))
  first_of_two d k = found d ∙ ap (λ y. Some (n, view y)) (get_or_append_left xs ys d n k)

  pub second_of_two : (d : T) → length xs ≤ n → first_named name text 0 (map view xs ++ map view ys) ≡ Some (n, view (get_or ys (n - length xs) d))
  second_of_two d k = found d ∙ ap (λ y. Some (n, view y)) (get_or-append_right xs ys (length xs) n d refl k)
