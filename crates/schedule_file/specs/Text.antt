-- The row that a line of a schedule writes.
use Rattle.std.specs.Prelude.{ℕ, ◌==◌, List, [], ◌∷◌, Option, Some, None, option_and_then, codes, bytes_eq, if◌then◌else◌}
use Rattle.std.specs.List.{slice_split}
use Rattle.cvm_text.specs.Lines.{number_spelled}
use Rattle.schedule_file.specs.declared.row.Row.{Row}
use Rattle.schedule_file.specs.declared.row.Row.TheVariants.{Line, Busy, Input}

-- the row of three words
unfoldable pub row_of_words : List ℕ → List ℕ → List ℕ → Option Row
row_of_words kind first second =
    option_and_then (λ a. option_and_then
    (λ b. if bytes_eq kind (codes "line") then Some (Line a b) else (if bytes_eq kind (codes "busy") then Some (Busy a b) else None)) (number_spelled second))
    (number_spelled first)

-- the row of two words
unfoldable pub row_of_pair : List ℕ → List ℕ → Option Row
row_of_pair kind word = option_and_then (λ w. if bytes_eq kind (codes "input") then Some (Input w) else None) (number_spelled word)

-- the row of a list of words: there are two or three
abbrev pub row_in_words : List (List ℕ) → Option Row
row_in_words (kind ∷ word ∷ []) = row_of_pair kind word
row_in_words (kind ∷ first ∷ second ∷ []) = row_of_words kind first second
row_in_words _ = None

-- the row that a line writes, one space between two words
unfoldable pub row_of : List ℕ → Option Row
row_of line = row_in_words (slice_split (λ c. c == 32) line)
