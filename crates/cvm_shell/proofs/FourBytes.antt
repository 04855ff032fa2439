-- The bytes of words: one word more adds its four bytes, and so there are four bytes a word.
use Rattle.std.proofs.Common.{◌≡◌, ℕ, ◌*◌, List, [], ◌∷◌, length, refl, arith, length-append}
use Rattle.std.specs.Int.{to_le_bytes, w32}
use Rattle.run_scripts.specs.Plan.{user_bytes}

pub length-bytes_of : (words : List ℕ) → length (user_bytes words) ≡ 4 * length words
length-bytes_of [] = refl
length-bytes_of (w ∷ words) = omega (arith, length-append (to_le_bytes w32 w) (user_bytes words), length-bytes_of words)
