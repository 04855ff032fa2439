-- A unit has one answer.
use Rattle.std.proofs.Common.{◌≡◌, inl, inr, ℕ, ◌≤◌, List, [], ◌∷◌, refl, ap, ◌∙◌, arith}
use Rattle.bound_check.specs.Graph.{IsAtMost}
use Rattle.bound_check.specs.Chains.{chain_weight, AnswersAreOne}

-- lists neither of which comes before the other are the same
same : (xs ys : List ℕ) → IsAtMost xs ys → IsAtMost ys xs → xs ≡ ys
same [] [] h g = refl
same [] (y ∷ ys) h g = absurd g
same (x ∷ xs) [] h g = absurd h
same (x ∷ xs) (y ∷ ys) h g =
    elim h [
      | inl below ↦ elim g [ inl above ↦ absurd (omega arith) | inr e ↦ let f : y ≡ x = e.0 in absurd (omega arith) ]
      | inr e ↦
          let f : x ≡ y = e.0 in
          elim g [
            | inl above ↦ absurd (omega arith)
            | inr d ↦ ap (λ (z : ℕ). z ∷ xs) f ∙ ap (λ (zs : List ℕ). y ∷ zs) (same xs ys e.1 d.1)
          ]
    ]

pub answers_are_one : AnswersAreOne
answers_are_one = record {
  chains = λ u m n xs ys a b.
      let le : chain_weight u ys ≤ m = a.most ys b.chain in
      let ge : chain_weight u xs ≤ n = b.most xs a.chain in
      let e : m ≡ n = omega (arith, le, ge, a.words_are, b.words_are) in
      (e, same xs ys (a.least ys b.chain (omega (arith, e, b.words_are))) (b.least xs a.chain (omega (arith, e, a.words_are))));
  loops = λ u xs ys a b. same xs ys (a.least ys b.looping) (b.least xs a.looping);
  not_both = λ u m xs ys a b. a.none_loops ys b.looping;
}
