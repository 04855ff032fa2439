-- What a cut at the first LF says of the lines of a text, for `first_line`.
use Rattle.std.proofs.Common.{◌≡◌, ◌<◌, ◌==◌, Bool, false, true, List, [], ℕ, ◌∷◌, length, cond, sym, ap, ◌∙◌, refl, arith}
use Rattle.std.specs.List.{slice_split, onto_first}
use Rattle.std.proofs.lemmas.Bool.Decides.{nat_tests}
use Rattle.cvm_text.specs.Lines.{without_empty_end, lines_of}

-- a text has a first part, which may be empty
pub first_part : (p : ℕ → Bool) (xs : List ℕ) → (part : List ℕ) × (parts : List (List ℕ)) × (slice_split p xs ≡ part ∷ parts)
first_part p [] = ([], [], refl)
first_part p (x ∷ xs) =
    let rest = first_part p xs in
    elim (p x) as (λ b. (part : List ℕ) × (parts : List (List ℕ)) × (cond b ([] ∷ slice_split p xs) (onto_first x (slice_split p xs)) ≡ part ∷ parts)) [
      | true ↦ ([], slice_split p xs, refl)
      | false ↦ (x ∷ rest.0, rest.1, ap (onto_first x) rest.2)
    ]

-- the line that LF ends, and the lines after it
pub lines_cut : (text line rest : List ℕ) → slice_split (λ c. c == 10) text ≡ line ∷ slice_split (λ c. c == 10) rest → lines_of text ≡ line ∷ lines_of rest
lines_cut text line rest cut =
    let first = first_part (λ c. c == 10) rest in
    ap without_empty_end (cut ∙ ap (λ parts. line ∷ parts) first.2) ∙ ap (λ parts. line ∷ without_empty_end parts) (sym first.2)

-- a text that LF does not end is one line, if it is not empty
pub lines_last : (text : List ℕ) → 0 < length text → slice_split (λ c. c == 10) text ≡ text ∷ [] → lines_of text ≡ text ∷ []
lines_last text some whole = ap without_empty_end whole ∙ not_empty text some
  where
    not_empty : (part : List ℕ) → 0 < length part → cond (length part == 0) [] (part ∷ []) ≡ part ∷ []
    not_empty part some = grind (arith, nat_tests)
