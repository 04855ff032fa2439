-- The lines of a text, and a word that is a number.
use Rattle.std.specs.Prelude.{ℕ, ◌==◌, List, [], ◌∷◌, length, Option, Some, None, option_and_then, if◌then◌else◌}
use Rattle.std.specs.List.{slice_split}
use Rattle.cvm_text.specs.Number.{spelled_number_at}

-- the parts without a last one that is empty
abbrev pub without_empty_end : List (List ℕ) → List (List ℕ)
without_empty_end [] = []
without_empty_end (part ∷ []) = if length part == 0 then [] else part ∷ []
without_empty_end (part ∷ next ∷ parts) = part ∷ without_empty_end (next ∷ parts)

-- the lines of a text: LF ends each, and the last may lack it
abbrev pub lines_of : List ℕ → List (List ℕ)
lines_of text = without_empty_end (slice_split (λ c. c == 10) text)

-- the number below 2 ^ 64 that a whole word spells
abbrev pub number_spelled : List ℕ → Option ℕ
number_spelled word = option_and_then (λ n. if n.1 == length word then Some n.0 else None) (spelled_number_at word 0)
