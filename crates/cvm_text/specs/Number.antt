-- Numbers in a text.
use Rattle.std.specs.Prelude.{◌≡◌, ℕ, ◌+◌, ◌<◌, ◌^◌, ◌&&◌, ◌||◌, ◌==◌, ◌++◌, Bool, not, nat_lt}
use Rattle.std.specs.Prelude.{List, length, drop, take, decimal, slice_index, Option, Some, None, option_map, if◌then◌else◌}
use Rattle.std.specs.List.{prefix_len}
use Rattle.std.specs.Char.{is_ascii_digit}
use Rattle.std.specs.Str.Parse.{digits_value}

-- all digits that stand in a text from a position on
abbrev pub digits_at : List ℕ → ℕ → List ℕ
digits_at bytes at = take (prefix_len is_ascii_digit (drop at bytes)) (drop at bytes)

-- whether digits spell a number: there is one, and none follows a leading 0
abbrev pub is_spelling : List ℕ → Bool
is_spelling digits = nat_lt 0 (length digits) && (not (slice_index digits 0 == 48) || length digits == 1)

-- a number, if it is below 2 ^ 64
abbrev pub below_limit : ℕ → Option ℕ
below_limit n = if nat_lt n (2 ^ 64) then Some n else None

-- the number that digits write, if it is below 2 ^ 64
abbrev pub value_of : List ℕ → Option ℕ
value_of digits = below_limit (digits_value 10 digits)

-- the number that is spelled at a position, with the position after its last digit
abbrev pub spelled_number_at : List ℕ → ℕ → Option (ℕ × ℕ)
spelled_number_at bytes at =
    if is_spelling (digits_at bytes at) then option_map (λ n. (n, at + length (digits_at bytes at))) (value_of (digits_at bytes at)) else None

-- a number below 2 ^ 64 is spelled at a position: its digits stand there, up to the position after them, and no further digit follows
pub record IsSpelledAt (bytes : List ℕ) (at number after : ℕ) : Type 0 where
  pub small : number < 2 ^ 64
  pub digits : drop at bytes ≡ decimal number ++ drop after bytes
  pub position : after ≡ at + length (decimal number)
  pub ends : prefix_len is_ascii_digit (drop after bytes) ≡ 0
