-- The first line of a text, and the lines after it.
use Rattle.std.proofs.Common.{◌≡◌, ℕ, suc, ◌+◌, ◌<◌, ◌≤◌, Bool, not, inl, inr, List, [], ◌∷◌, length, take, drop, refl, sym, ap, ◌∙◌, subst, arith}
use Rattle.std.proofs.lemmas.Bool.{cases_Bool, cond-true, cond-false, not_from_true, not_from_false}
use Rattle.std.proofs.lemmas.List.Splits.{slice_split-cons_yes, slice_split-cons_no}
use Rattle.std.specs.List.{slice_split, onto_first, prefix_len}

-- where an element ends the first part
pub first_part : (p : ℕ → Bool) (xs : List ℕ) (n : ℕ) → n ≡ prefix_len (λ c. not (p c)) xs → n < length xs → slice_split p xs ≡ take n xs ∷ slice_split p (drop (n + 1) xs)
first_part p [] n e below = absurd (omega arith)
first_part p (x ∷ xs) n e below =
    elim (cases_Bool (p x)) [
      | inl t ↦
          let z : n ≡ 0 = e ∙ cond-false (not (p x)) (1 + prefix_len (λ c. not (p c)) xs) 0 (not_from_true (p x) t) in
          subst (λ (k : ℕ). slice_split p (x ∷ xs) ≡ take k (x ∷ xs) ∷ slice_split p (drop (k + 1) (x ∷ xs))) (sym z) (slice_split-cons_yes p x xs t)
      | inr f ↦
          let m : ℕ = prefix_len (λ c. not (p c)) xs in
          let z : n ≡ suc m = e ∙ (cond-true (not (p x)) (1 + prefix_len (λ c. not (p c)) xs) 0 (not_from_false (p x) f) ∙ omega arith) in
          let k : suc m + 1 ≡ suc (m + 1) = omega arith in
          subst (λ (j : ℕ). slice_split p (x ∷ xs) ≡ take j (x ∷ xs) ∷ slice_split p (drop (j + 1) (x ∷ xs))) (sym z)
          (slice_split-cons_no p x xs f ∙ (ap (onto_first x) (first_part p xs m refl (omega arith))
          ∙ ap (λ (j : ℕ). (x ∷ take m xs) ∷ slice_split p (drop j (x ∷ xs))) (sym k)))
    ]

-- where none does
pub only_part : (p : ℕ → Bool) (xs : List ℕ) (n : ℕ) → n ≡ prefix_len (λ c. not (p c)) xs → length xs ≤ n → slice_split p xs ≡ xs ∷ []
only_part p [] n e above = refl
only_part p (x ∷ xs) n e above =
    elim (cases_Bool (p x)) [
      | inl t ↦
          let z : n ≡ 0 = e ∙ cond-false (not (p x)) (1 + prefix_len (λ c. not (p c)) xs) 0 (not_from_true (p x) t) in
          absurd (omega arith)
      | inr f ↦
          let m : ℕ = prefix_len (λ c. not (p c)) xs in
          let z : n ≡ suc m = e ∙ (cond-true (not (p x)) (1 + prefix_len (λ c. not (p c)) xs) 0 (not_from_false (p x) f) ∙ omega arith) in
          slice_split-cons_no p x xs f ∙ ap (onto_first x) (only_part p xs m refl (omega arith))
    ]
