-- Structs that are checked one after the other.
use Rattle.std.proofs.Common.{◌≡◌, ℕ, suc, ◌+◌, ◌<◌, ◌≤◌, inl, inr, Bool, true, false, nat_lt, min, get_or, set, List, [], ◌∷◌, ◌++◌, length, map, Some, cond, get_or-set_same, get_or-set_other, refl, sym, ap, ◌∙◌, subst, arith}
use Rattle.std.specs.Option.{option_map}
use Rattle.std.specs.Str.{bytes_eq}
use Rattle.std.proofs.lemmas.Bool.{cases_lt}
use Rattle.std.proofs.lemmas.Bool.Decides.{nat_tests}
use Rattle.std.proofs.lemmas.List.{length-map, get_or_append_left, get_or_push, get_or_default}
use Rattle.c0_tree.specs.Tree.{CStruct}
use Rattle.c0_body_check.proofs.InPlace.{map-get_or}
use Rattle.c0_meaning.specs.DeclaredTypes.{MAX_TYPE_WORDS}
use Rattle.c0_meaning.specs.Env.{Shape, first_named}
use Rattle.c0_meaning.specs.Resolved.{resolved_structs}
use Rattle.c0_name_check.specs.Names.{number_named}
use Rattle.c0_meaning.specs.Sizes.{WORDS_CAP}
use Rattle.c0_types.specs.NumberedStruct.{resolved_struct}
use Rattle.c0_types.proofs.DeclaredInPlace.{numbered}

-- all are numbered
pub structs_numbered : (shapes : List Shape) (k : ℕ) (ss : List CStruct) → numbered (resolved_struct shapes) k (length ss) ss ≡ resolved_structs shapes k ss
structs_numbered shapes k [] = refl
structs_numbered shapes k (s ∷ ss) = ap (◌∷◌ (resolved_struct shapes k s)) (structs_numbered shapes (suc k) ss)

-- a name's number is found through a view of the list
pub number_viewed : {A B : Type 0} (view : A → B) (name : B → List ℕ) (q : List ℕ) (k : ℕ) (xs : List A)
    → number_named name q k (map view xs) ≡ number_named (λ x. name (view x)) q k xs
number_viewed view name q k [] = refl
number_viewed {A} {B} view name q k (x ∷ xs) = by_test (bytes_eq (name (view x)) q) (number_viewed view name q (suc k) xs)
  where
    by_test : (b : Bool) → number_named name q (suc k) (map view xs) ≡ number_named (λ y. name (view y)) q (suc k) xs
        → option_map (λ (f : ℕ × B). f.0) (cond b (Some (k, view x)) (first_named name q (suc k) (map view xs)))
        ≡ option_map (λ (f : ℕ × A). f.0) (cond b (Some (k, x)) (first_named (λ y. name (view y)) q (suc k) xs))
    by_test true h = refl
    by_test false h = h

-- what is too large is so up to the cap
pub large_capped : (k : ℕ) → nat_lt MAX_TYPE_WORDS (min k WORDS_CAP) ≡ nat_lt MAX_TYPE_WORDS k
large_capped k = elim (cases_lt k WORDS_CAP) [
  | inl below ↦ let e : min k WORDS_CAP ≡ k = omega arith in ap (nat_lt MAX_TYPE_WORDS) e
  | inr above ↦ let e : min k WORDS_CAP ≡ WORDS_CAP = omega arith in ap (nat_lt MAX_TYPE_WORDS) e ∙ sym (over k above)
]
  where
    over : (n : ℕ) → WORDS_CAP ≤ n → nat_lt MAX_TYPE_WORDS n ≡ true
    over n h = grind (arith, nat_tests)

-- what a list tells of each element, at one of them
pub told_at : {V : Type 0} (test : V → Bool) (told : List Bool) (ys : List V) (i : ℕ) (x : V)
    → told ≡ map test ys → i < length ys → x ≡ get_or ys i x → get_or told i false ≡ test x
told_at test told ys i x e h was =
    ap (λ (l : List Bool). get_or l i false) e
    ∙ (get_or_default (map test ys) i false (test x) (subst (λ (n : ℕ). i < n) (sym (length-map ys test)) h)
    ∙ (sym (map-get_or test ys i x) ∙ ap test (sym was)))

-- what is so of the elements so far is so of one more
pub told_more : {M S : Type 0} (R : M → S → Type 0) (ms : List M) (ss : List S) (i : ℕ) (m : M) (new : S)
    → ((j : ℕ) (n : M) (s : S) → j < i → R (get_or ms j n) (get_or ss j s)) → length ms ≡ i → i < length ss → R m new
    → (j : ℕ) (n : M) (s : S) → j < i + 1 → R (get_or (ms ++ m ∷ []) j n) (get_or (set ss i new) j s)
told_more R ms ss i m new h count within here j n s below = elim (cases_lt j i) [
  | inl earlier ↦
      let left : get_or (ms ++ m ∷ []) j n ≡ get_or ms j n = get_or_append_left ms (m ∷ []) n j (omega (arith, count, earlier)) in
      let apart : j ≡ i → ⊥ = λ e. omega (arith, e, earlier) in
      let other : get_or (set ss i new) j s ≡ get_or ss j s = get_or-set_other ss i j new s apart in
      rw (left, other) (h j n s earlier)
  | inr later ↦
      let last : j ≡ i = omega (arith, later, below) in
      let pushed : get_or (ms ++ m ∷ []) j n ≡ m = get_or_push ms m n j (count ∙ sym last) in
      let same : get_or (set ss i new) j s ≡ new = ap (λ (k : ℕ). get_or (set ss i new) k s) last ∙ get_or-set_same ss i new s within in
      rw (pushed, same) here
]
