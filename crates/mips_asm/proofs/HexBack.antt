-- The eight digits of a word read back as the word.
use Rattle.std.proofs.Common.{◌≡◌, ◌<◌, ◌+◌, ◌*◌, ◌/◌, ◌%◌, ◌^◌, ℕ, pos, Bool, true, cond, ◌∷◌, Some, None, refl, sym, ap, ◌∙◌, arith}
use Rattle.std.specs.Prelude.{option_map}
use Rattle.std.specs.List.{list_all}
use Rattle.std.specs.Char.{is_ascii_hexdigit, digit_value}
use Rattle.std.specs.Str.Parse.{digits_value}
use Rattle.std.proofs.Math.Nat.{div-div-eq-div-mul}
use Rattle.std.proofs.lemmas.Bool.{and_from}
use Rattle.std.proofs.lemmas.Bool.Decides.{nat_tests}
use Rattle.cvm_text.specs.Hex.{hex8, hex_digit}
use Rattle.mips_asm.specs.Number.{number_value}
use Rattle.mips_asm.proofs.OperandsStayWhole.{token}

digit_is_hex : (d : ℕ) → d < 16 → is_ascii_hexdigit (hex_digit d) ≡ true
digit_is_hex d small = grind (arith, nat_tests)

digit_is_token : (d : ℕ) → d < 16 → token (hex_digit d) ≡ true
digit_is_token d small = grind (arith, nat_tests)

digit_back : (d : ℕ) → d < 16 → digit_value (hex_digit d) ≡ d
digit_back d small = grind (arith, nat_tests)

-- a test that each digit passes
hex8_all : (p : ℕ → Bool) (value : ℕ) → ((d : ℕ) → d < 16 → p (hex_digit d) ≡ true) → list_all p (hex8 value) ≡ true
hex8_all p value h =
    let at = λ (position : ℕ). h (value / 16 ^ position % 16) (omega arith) in
    and_from _ _ (at 7) (and_from _ _ (at 6) (and_from _ _ (at 5) (and_from _ _ (at 4) (and_from _ _ (at 3) (and_from _ _ (at 2) (and_from _ _ (at 1) (and_from _ _ (at 0) refl)))))))

pub hex8_token : (value : ℕ) → list_all token (hex8 value) ≡ true
hex8_token value = hex8_all token value digit_is_token

pub hex8_digits : (value : ℕ) → list_all is_ascii_hexdigit (hex8 value) ≡ true
hex8_digits value = hex8_all is_ascii_hexdigit value digit_is_hex

-- one digit more
step : (value high low position n : ℕ) → high ≡ low * 16 → n ≡ value / high → n * 16 + digit_value (hex_digit (value / low % 16)) ≡ value / low
step value high low position n is before =
    let d = digit_back (value / low % 16) (omega arith) in
    let q : value / low / 16 ≡ value / high = div-div-eq-div-mul value low 16 ∙ ap (λ m. value / m) (sym is) in
    omega (arith, d, q, before)

pub hex8_value : (value : ℕ) → value < 2 ^ 32 → digits_value 16 (hex8 value) ≡ value
hex8_value value small =
    let s7 : 0 * 16 + digit_value (hex_digit (value / 16 ^ 7 % 16)) ≡ value / 16 ^ 7 = step value (16 ^ 8) (16 ^ 7) 7 0 refl (omega arith) in
    let s6 = step value (16 ^ 7) (16 ^ 6) 6 _ refl s7 in
    let s5 = step value (16 ^ 6) (16 ^ 5) 5 _ refl s6 in
    let s4 = step value (16 ^ 5) (16 ^ 4) 4 _ refl s5 in
    let s3 = step value (16 ^ 4) (16 ^ 3) 3 _ refl s4 in
    let s2 = step value (16 ^ 3) (16 ^ 2) 2 _ refl s3 in
    let s1 = step value (16 ^ 2) (16 ^ 1) 1 _ refl s2 in
    let s0 = step value (16 ^ 1) (16 ^ 0) 0 _ refl s1 in
    s0 ∙ omega arith

pub hex8_number : (value : ℕ) → value < 2 ^ 32 → number_value (48 ∷ (120 ∷ hex8 value)) ≡ Some (pos value)
hex8_number value small =
    ap (λ b. option_map pos (cond b (Some (digits_value 16 (hex8 value))) None)) (hex8_digits value) ∙ ap (λ n. Some (pos n)) (hex8_value value small)
