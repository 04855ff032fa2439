-- Numbers and names, as they are written.
use Rattle.std.specs.Prelude.{ℕ, ℤ, pos, neg_ℤ, ◌&&◌, ◌||◌, ◌==◌, Bool, false, not, nat_lt, nat_le}
use Rattle.std.specs.Prelude.{List, [], ◌∷◌, length, drop, slice_index, Option, Some, None, option_map, if◌then◌else◌}
use Rattle.std.specs.List.{list_all}
use Rattle.std.specs.Char.{is_ascii_digit, is_ascii_hexdigit, is_ascii_alphabetic, is_ascii_alphanumeric}
use Rattle.std.specs.Str.Parse.{digits_value}

-- decimal digits, at most 10 of them, and no 0 before a further one
abbrev pub is_decimal : List ℕ → Bool
is_decimal ds = nat_lt 0 (length ds) && nat_le (length ds) 10 && list_all is_ascii_digit ds && (not (slice_index ds 0 == 48) || length ds == 1)

-- 1 to 8 hexadecimal digits
abbrev pub is_hexadecimal : List ℕ → Bool
is_hexadecimal ds = nat_lt 0 (length ds) && nat_le (length ds) 8 && list_all is_ascii_hexdigit ds

-- the value of decimal digits
abbrev pub decimal_number : List ℕ → Option ℕ
decimal_number ds = if is_decimal ds then Some (digits_value 10 ds) else None

-- the value of hexadecimal digits
abbrev pub hexadecimal_number : List ℕ → Option ℕ
hexadecimal_number ds = if is_hexadecimal ds then Some (digits_value 16 ds) else None

-- the value of a number: `-` and decimal digits, `0x` and hexadecimal digits, or decimal digits
abbrev pub number_value : List ℕ → Option ℤ
number_value text =
    if slice_index text 0 == 45 then option_map (λ n. neg_ℤ (pos n)) (decimal_number (drop 1 text))
    else if slice_index text 0 == 48 && slice_index text 1 == 120 then option_map pos (hexadecimal_number (drop 2 text))
    else option_map pos (decimal_number text)

-- a byte that a name begins with: a letter or `_`
abbrev pub begins_name : ℕ → Bool
begins_name c = is_ascii_alphabetic c || c == 95

-- a byte of a name: a letter, a digit or `_`
abbrev pub in_name : ℕ → Bool
in_name c = is_ascii_alphanumeric c || c == 95

-- whether a text is a name
abbrev pub is_name : List ℕ → Bool
is_name [] = false
is_name (c ∷ cs) = begins_name c && list_all in_name cs
