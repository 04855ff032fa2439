-- Words of 32 bits and the whole numbers that they mean.
use Rattle.std.specs.Prelude.{ℕ, ℤ}
use Rattle.std.specs.Int.{w32, cast_signed, cast_unsigned}
use Rattle.std.specs.Int.RustNames.{int_div, int_rem}

-- the number that a word means: a word from 2 ^ 31 on means itself less 2 ^ 32
abbrev pub int_of : ℕ → ℤ
int_of word = cast_signed w32 word

-- the word of a number
abbrev pub word_of : ℤ → ℕ
word_of value = cast_unsigned w32 value

-- the quotient of whole numbers, rounded towards zero and brought into 32 bits
abbrev pub quotient : ℤ → ℤ → ℤ
quotient a b = int_of (word_of (int_div a b))

-- what that quotient of whole numbers leaves
abbrev pub remainder : ℤ → ℤ → ℤ
remainder a b = int_rem a b
