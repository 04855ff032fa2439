-- Arithmetic on words of 32 bits.
use Rattle.std.specs.Prelude.{ℕ, ◌+◌, ◌-◌, ◌*◌, ◌/◌, ◌%◌, ◌^◌, Bool, not, ℤ, pos}
use Rattle.std.specs.Prelude.{negsuc, ◌+ℤ◌, ◌-ℤ◌, ◌*ℤ◌, int_div, int_rem, if◌then◌else◌, nat_lt, int_lt, bit_or}
use Rattle.std.specs.Int.{cast_signed, cast_unsigned, w32, w64}

-- a word as a whole number, by two's complement
abbrev pub signed : ℕ → ℤ
signed a = cast_signed w32 a

-- from -2147483648 to 2147483647
abbrev pub is_int : ℤ → Bool
is_int (pos n) = nat_lt n (2 ^ 31)
is_int (negsuc n) = nat_lt n (2 ^ 31)

-- the sum of two words
abbrev pub sum : ℕ → ℕ → ℕ
sum a b = (a + b) % 2 ^ 32

-- the difference of two words
abbrev pub difference : ℕ → ℕ → ℕ
difference a b = (a + (2 ^ 32 - b)) % 2 ^ 32

-- whether the sum of two signed words is no signed word
abbrev pub sum_overflows : ℕ → ℕ → Bool
sum_overflows a b = not (is_int (signed a +ℤ signed b))

-- whether the difference of two signed words is no signed word
abbrev pub difference_overflows : ℕ → ℕ → Bool
difference_overflows a b = not (is_int (signed a -ℤ signed b))

-- whether one signed word is below another
abbrev pub less : ℕ → ℕ → Bool
less a b = int_lt (signed a) (signed b)

-- whether a signed word is below 0
abbrev pub is_negative : ℕ → Bool
is_negative a = int_lt (signed a) (pos 0)

-- whether a signed word is above 0
abbrev pub is_positive : ℕ → Bool
is_positive a = int_lt (pos 0) (signed a)

-- to the left, with zeros in the places that become free
abbrev pub shifted_left : ℕ → ℕ → ℕ
shifted_left a by = a * 2 ^ by % 2 ^ 32

-- to the right, with zeros in the places that become free
abbrev pub shifted_right : ℕ → ℕ → ℕ
shifted_right a by = a / 2 ^ by

-- to the right, with the sign in the places that become free
abbrev pub shifted_signed : ℕ → ℕ → ℕ
shifted_signed a by = if is_negative a then 2 ^ 32 - 1 - (2 ^ 32 - 1 - a) / 2 ^ by else a / 2 ^ by

-- the bits that neither word has
abbrev pub nor : ℕ → ℕ → ℕ
nor a b = 2 ^ 32 - 1 - bit_or a b

-- 1 for true and 0 for false
abbrev pub flag : Bool → ℕ
flag b = if b then 1 else 0

-- a field of 16 bits, extended by its sign
abbrev pub extended : ℕ → ℕ
extended imm = if nat_lt imm (2 ^ 15) then imm else imm + (2 ^ 32 - 2 ^ 16)

-- the product of two signed words, as 64 bits
abbrev pub signed_product : ℕ → ℕ → ℕ
signed_product a b = cast_unsigned w64 (signed a *ℤ signed b)

-- the upper half of 64 bits
abbrev pub upper : ℕ → ℕ
upper n = n / 2 ^ 32

-- their lower half
abbrev pub lower : ℕ → ℕ
lower n = n % 2 ^ 32

-- the quotient of two signed words, rounded towards zero; that of the least and -1 is the least
abbrev pub signed_quotient : ℕ → ℕ → ℕ
signed_quotient a b = cast_unsigned w32 (int_div (signed a) (signed b))

-- what is left of a signed word by that quotient: 0, or of the word's sign
abbrev pub signed_remainder : ℕ → ℕ → ℕ
signed_remainder a b = cast_unsigned w32 (int_rem (signed a) (signed b))
