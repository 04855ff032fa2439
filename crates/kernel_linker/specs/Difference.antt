-- How stored words differ from those that are made.
use Rattle.std.specs.Prelude.{ℕ, suc, ◌==◌, List, [], ◌∷◌, length, Result, Ok, Err, if◌then◌else◌}
use Rattle.kernel_linker.specs.declared.difference.Difference.{Difference}
use Rattle.kernel_linker.specs.declared.difference.Difference.TheVariants.{Count, Word}

-- the first word that differs, where the first of the lists has this position
abbrev pub words_compared : (position : ℕ) → (stored made : List ℕ) → Result (Unit {0}) Difference
words_compared position [] made = Ok tt
words_compared position (s ∷ stored) [] = Ok tt
words_compared position (s ∷ stored) (m ∷ made) = if s == m then words_compared (suc position) stored made else Err (Word position s m)

-- the numbers of words are looked at first, and then each word
unfoldable pub compared : (stored made : List ℕ) → Result (Unit {0}) Difference
compared stored made = if length stored == length made then words_compared 0 stored made else Err (Count (length stored) (length made))
