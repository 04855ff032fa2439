-- Words in hexadecimal.
use Rattle.std.specs.Prelude.{ℕ, ◌+◌, ◌/◌, ◌%◌, ◌^◌, nat_lt, List, [], ◌∷◌, map, if◌then◌else◌}

-- a digit of base sixteen, in lower case
abbrev pub hex_digit : ℕ → ℕ
hex_digit d = if nat_lt d 10 then 48 + d else 87 + d

-- the digits of a word, the highest first
abbrev pub hex8 : ℕ → List ℕ
hex8 word = map (λ position. hex_digit (word / 16 ^ position % 16)) (7 ∷ (6 ∷ (5 ∷ (4 ∷ (3 ∷ (2 ∷ (1 ∷ (0 ∷ []))))))))
