-- A text by its lines, as a kernel's source is stated.
use Rattle.std.specs.Prelude.{ℕ, List, [], ◌∷◌, ◌++◌}

-- each line with its line feed, as a file has them
abbrev pub by_lines : List (List ℕ) → List ℕ
by_lines [] = []
by_lines (line ∷ rest) = line ++ 10 ∷ by_lines rest
