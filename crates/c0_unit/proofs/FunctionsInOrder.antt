-- The functions of a unit in the order of their code: those of a range of numbers, one more of them, and two ranges behind one another.
use Rattle.std.specs.Prelude.{sum, slice_get, slice_index, Some}
use Rattle.std.proofs.Common.{◌≡◌, ℕ, zero, suc, ◌+◌, ◌-◌, ◌*◌, ◌<◌, ◌≤◌, inl, inr, List, [], ◌∷◌, ◌++◌, length, take, drop, refl, sym, ap, ◌∙◌, subst, arith, length-append, append_assoc, append-nil}
use Rattle.std.proofs.lemmas.Bool.{cases_lt}
use Rattle.std.proofs.lemmas.List.{length-map, length-take-le, map-append}
use Rattle.mips_table.specs.declared.inst.Inst.{Inst}
use Rattle.c0_tree.specs.Tree.{CFunction, CUnit}
use Rattle.c0_meaning.specs.Limits.{all_nodes}
use Rattle.c0_stmt_code.specs.Code.{Links, function_code}
use Rattle.c0_stmt_code.specs.Lengths.{FunctionsAreShort, LengthsAreFixed}
use Rattle.c0_unit.specs.Code.{scope, no_links, functions_code, words_of_functions, lengths_of, functions_in, words_in, ordered_code, starts_from, starts_in_order}
use Rattle.c0_unit.proofs.UnitAddresses.{IsPart, sum-cons, words_few, functions_length, function_stands, behind, before_more}

-- an element of a list stands in its first part, or in the rest
get_below : {A : Type 0} (xs : List A) (n : ℕ) (x : A) → slice_get xs n ≡ Some x → n < length xs
get_below [] n x e = absurd (cc)
get_below (y ∷ ys) zero x e = omega arith
get_below (y ∷ ys) (suc n) x e = let h = get_below ys n x e in omega (arith, h)

get_take : {A : Type 0} (k : ℕ) (xs : List A) (n : ℕ) (x : A) → n < k → slice_get xs n ≡ Some x → slice_get (take k xs) n ≡ Some x
get_take zero xs n x lt e = absurd (omega (arith, lt))
get_take (suc k) [] n x lt e = absurd (cc)
get_take (suc k) (y ∷ ys) zero x lt e = e
get_take (suc k) (y ∷ ys) (suc n) x lt e = get_take k ys n x (omega (arith, lt)) e

get_drop : {A : Type 0} (k : ℕ) (xs : List A) (n m : ℕ) (x : A) → n ≡ k + m → slice_get xs n ≡ Some x → slice_get (drop k xs) m ≡ Some x
get_drop zero xs n m x is e = let q : n ≡ m = omega (arith, is) in subst (λ i. slice_get xs i ≡ Some x) q e
get_drop (suc k) [] n m x is e = absurd (cc)
get_drop (suc k) (y ∷ ys) zero m x is e = absurd (omega (arith, is))
get_drop (suc k) (y ∷ ys) (suc n) m x is e = get_drop k ys n m x (omega (arith, is)) e

-- a number of what stands behind other numbers
index_behind : (xs ys : List ℕ) (n m : ℕ) → n ≡ length xs + m → slice_index (xs ++ ys) n ≡ slice_index ys m
index_behind [] ys n m is = let q : n ≡ m = omega (arith, is) in ap (slice_index ys) q
index_behind (x ∷ xs) ys zero m is = absurd (omega (arith, is))
index_behind (x ∷ xs) ys (suc n) m is = index_behind xs ys n m (omega (arith, is))

-- a range with one more
more_of : {A : Type 0} (from n : ℕ) (xs : List A) (x : A) → from ≤ n → slice_get xs n ≡ Some x → drop from (take (suc n) xs) ≡ drop from (take n xs) ++ x ∷ []
more_of from n [] x le e = absurd (cc)
more_of zero zero (y ∷ ys) x le e = let same : y ≡ x = cc in ap (λ z. z ∷ []) same
more_of zero (suc n) (y ∷ ys) x le e = ap (λ zs. y ∷ zs) (more_of zero n ys x (omega arith) e)
more_of (suc from) zero (y ∷ ys) x le e = absurd (omega (arith, le))
more_of (suc from) (suc n) (y ∷ ys) x le e = more_of from n ys x (omega (arith, le)) e

pub none_in : {A : Type 0} (n : ℕ) (xs : List A) → drop n (take n xs) ≡ []
none_in zero xs = refl
none_in (suc n) [] = refl
none_in (suc n) (x ∷ xs) = none_in n xs

nodes_take : (fs : List CFunction) (n : ℕ) → all_nodes (take n fs) ≤ all_nodes fs
nodes_take fs zero = omega arith
nodes_take [] (suc n) = omega arith
nodes_take (f ∷ fs) (suc n) = let r = nodes_take fs n in omega (arith, r)

nodes_drop : (fs : List CFunction) (n : ℕ) → all_nodes (drop n fs) ≤ all_nodes fs
nodes_drop fs zero = omega arith
nodes_drop [] (suc n) = omega arith
nodes_drop (f ∷ fs) (suc n) = let r = nodes_drop fs n in omega (arith, r)

pub starts_length : (at : ℕ) (ns : List ℕ) → length (starts_from at ns) ≡ length ns
starts_length at [] = refl
starts_length at (n ∷ ns) = let r = starts_length (at + n) ns in omega (arith, r)

module _ (u : CUnit) where
  pub range_more : (from n k : ℕ) (f : CFunction) → k ≡ suc n → from ≤ n → slice_get u.functions n ≡ Some f → functions_in u from k ≡ functions_in u from n ++ f ∷ []
  range_more from n k f next le is = ap (functions_in u from) next ∙ more_of from n u.functions f le is

  pub code_join : (x : Links) (a b : List CFunction) → functions_code u x (a ++ b) ≡ functions_code u x a ++ functions_code u x b
  code_join x [] b = refl
  code_join x (f ∷ a) b =
      ap (λ (is : List Inst). function_code (scope u f) x f ++ is) (code_join x a b) ∙ sym (append_assoc (function_code (scope u f) x f) (functions_code u x a) (functions_code u x b))

  pub words_join : (a b : List CFunction) → words_of_functions u (a ++ b) ≡ words_of_functions u a ++ words_of_functions u b
  words_join a b = map-append (λ f. length (function_code (scope u f) no_links f)) a b

  -- a range's words are few
  pub range_few : FunctionsAreShort → (from to : ℕ) → sum (words_in u from to) ≤ 32 * all_nodes u.functions
  range_few short from to =
      let few = words_few short u (functions_in u from to) in
      let d = nodes_drop (take to u.functions) from in
      let t = nodes_take u.functions to in
      omega (arith, few, d, t)

  -- the words of both parts are those of all
  parts_sum : (n : ℕ) (fs : List CFunction) → sum (words_of_functions u (drop n fs)) + sum (words_of_functions u (take n fs)) ≡ sum (words_of_functions u fs)
  parts_sum zero fs = omega arith
  parts_sum (suc n) [] = refl
  parts_sum (suc n) (f ∷ fs) =
      let r = parts_sum n fs in
      let a = sum-cons (length (function_code (scope u f) no_links f)) (words_of_functions u (take n fs)) in
      let b = sum-cons (length (function_code (scope u f) no_links f)) (words_of_functions u fs) in
      omega (arith, r, a, b)

  pub both_sum : (first : ℕ) → sum (words_of_functions u (drop first u.functions)) + sum (words_of_functions u (take first u.functions)) ≡ sum (lengths_of u)
  both_sum first = parts_sum first u.functions

  pub ordered_length : LengthsAreFixed → (x : Links) (first : ℕ) → length (ordered_code u x first) ≡ sum (lengths_of u)
  ordered_length fixed x first =
      let joined = ap (λ (is : List Inst). length is) (code_join x (drop first u.functions) (take first u.functions)) in
      let both = length-append (functions_code u x (drop first u.functions)) (functions_code u x (take first u.functions)) in
      let a = functions_length fixed u x (drop first u.functions) in
      let b = functions_length fixed u x (take first u.functions) in
      let all = both_sum first in
      omega (arith, joined, both, a, b, all)

  -- as many addresses as functions, of those before a number
  front_length : (at first : ℕ) → first ≤ length u.functions → length (starts_from at (words_of_functions u (take first u.functions))) ≡ first
  front_length at first le =
      starts_length at (words_of_functions u (take first u.functions)) ∙ (length-map (take first u.functions) (λ f. length (function_code (scope u f) no_links f)) ∙ length-take-le first u.functions le)

  -- a function stands in the code of all where its address says
  pub stands_in_order : LengthsAreFixed → (x : Links) (at first n : ℕ) (f : CFunction) → slice_get u.functions n ≡ Some f
      → (from : ℕ) × (slice_index (starts_in_order at u first) n ≡ 4 * (at + from)) × IsPart (function_code (scope u f) x f) from (ordered_code u x first)
  stands_in_order fixed x at first n f is = elim (cases_lt n first) [ inl lt ↦ early lt | inr le ↦ late le ]
    where
      joined : functions_code u x (drop first u.functions) ++ functions_code u x (take first u.functions) ≡ ordered_code u x first
      joined = sym (code_join x (drop first u.functions) (take first u.functions))

      early : n < first → (from : ℕ) × (slice_index (starts_in_order at u first) n ≡ 4 * (at + from)) × IsPart (function_code (scope u f) x f) from (ordered_code u x first)
      early lt =
          let r = function_stands fixed u x (take first u.functions) (starts_from at (words_of_functions u (drop first u.functions))) (at + sum (words_of_functions u (drop first u.functions))) n f (get_take first u.functions n f lt is) in
          let q = r.1 in (
            sum (words_of_functions u (drop first u.functions)) + r.0,
            omega (arith, q),
            subst (λ (is : List Inst). IsPart (function_code (scope u f) x f) (sum (words_of_functions u (drop first u.functions)) + r.0) is) joined
                (behind (functions_code u x (drop first u.functions)) (function_code (scope u f) x f) (functions_code u x (take first u.functions)) r.0 (sum (words_of_functions u (drop first u.functions))) (functions_length fixed u x (drop first u.functions)) r.2),
          )

      late : first ≤ n → (from : ℕ) × (slice_index (starts_in_order at u first) n ≡ 4 * (at + from)) × IsPart (function_code (scope u f) x f) from (ordered_code u x first)
      late le =
          let below = get_below u.functions n f is in
          let far : n ≡ first + (n - first) = omega (arith, le) in
          let front = front_length (at + sum (words_of_functions u (drop first u.functions))) first (omega (arith, le, below)) in
          let r = function_stands fixed u x (drop first u.functions) [] at (n - first) f (get_drop first u.functions n (n - first) f far is) in
          let q = r.1 in (
            r.0,
            index_behind (starts_from (at + sum (words_of_functions u (drop first u.functions))) (words_of_functions u (take first u.functions))) (starts_from at (words_of_functions u (drop first u.functions))) n (n - first) (omega (arith, far, front))
                ∙ (ap (λ (ns : List ℕ). slice_index ns (n - first)) (sym (append-nil (starts_from at (words_of_functions u (drop first u.functions))))) ∙ q),
            subst (λ (is : List Inst). IsPart (function_code (scope u f) x f) r.0 is) joined
                (before_more (function_code (scope u f) x f) (functions_code u x (drop first u.functions)) (functions_code u x (take first u.functions)) r.0 r.2),
          )

  -- and the first one stands first
  pub first_stands : (at first : ℕ) (f : CFunction) → slice_get u.functions first ≡ Some f → slice_index (starts_in_order at u first) first ≡ 4 * at
  first_stands at first f is =
      let below = get_below u.functions first f is in
      let front = front_length (at + sum (words_of_functions u (drop first u.functions))) first (omega (arith, below)) in
      index_behind (starts_from (at + sum (words_of_functions u (drop first u.functions))) (words_of_functions u (take first u.functions))) (starts_from at (words_of_functions u (drop first u.functions))) first 0 (omega (arith, front))
      ∙ head_start (drop first u.functions) (get_drop first u.functions first 0 f (omega arith) is)
    where
      head_start : (fs : List CFunction) → slice_get fs 0 ≡ Some f → slice_index (starts_from at (words_of_functions u fs)) 0 ≡ 4 * at
      head_start [] e = absurd (cc)
      head_start (g ∷ fs) e = refl
