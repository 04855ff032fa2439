-- Digits that spell a number are the decimal text of its value, and the other way round.
use Rattle.std.proofs.Common.{◌≡◌, ◌<◌, ◌+◌, ◌^◌, ◌==◌, ◌||◌, not, nat_lt, ℕ, true, false, cond, List, ◌++◌, length, take, drop, get_or, Some, None, sym, ap, ◌∙◌, true≢false, inl, inr, ne_eqb, lit<, lt-ltb, arith}
use Rattle.std.specs.Prelude.{option_map}
use Rattle.std.specs.Fmt.{decimal}
use Rattle.std.specs.List.{list_all, prefix_len}
use Rattle.std.specs.Char.{is_ascii_digit}
use Rattle.std.specs.Str.Parse.{digits_value}
use Rattle.std.proofs.lemmas.Fmt.{decimal_is_IsNumeral, decimal_digit, first_decimal, digits_decimal, digits_value-decimal, decimal-digits_value}
use Rattle.std.proofs.lemmas.Str.Parse.{IsNumeralModel, numerals_by_value}
use Rattle.std.proofs.lemmas.List.Folds.{prefix_len-append}
use Rattle.std.proofs.lemmas.Bool.{and_from, cases_eq}
use Rattle.std.proofs.lemmas.Bool.Decides.{nat_tests}
use Rattle.std.proofs.Math.Seq.{take-append_seam}
use Rattle.std.proofs.Common.{rules}
use Rattle.cvm_text.specs.Number.{digits_at, is_spelling, value_of, below_limit, spelled_number_at}
use Rattle.cvm_text.proofs.FrontsOfDigits.{prefix_len_all, limit_is_small, limit_some, limit_below, both}

own : IsNumeralModel (λ ds. list_all is_ascii_digit ds ≡ true) (digits_value 10)
own = numerals_by_value _ (search rules)

one_digit : (ds : List ℕ) → (not (get_or ds 0 0 == 48) || length ds == 1) ≡ true → get_or ds 0 0 ≡ 48 → length ds ≡ 1
one_digit ds h e = grind (arith, nat_tests)

some_digit : (ds : List ℕ) → nat_lt 0 (length ds) ≡ true → 0 < length ds
some_digit ds h = grind (arith, nat_tests)

pub spelled_is : (ds : List ℕ) (v : ℕ) → list_all is_ascii_digit ds ≡ true → is_spelling ds ≡ true → value_of ds ≡ Some v → ds ≡ decimal v
spelled_is ds v digits spelling some =
    let parts = both (nat_lt 0 (length ds)) (not (get_or ds 0 0 == 48) || length ds == 1) spelling in
    sym (decimal-digits_value own ds digits (some_digit ds parts.0) (one_digit ds parts.1) (small v some))
    ∙ ap decimal (sym (limit_some (digits_value 10 ds) v some))
  where
    small : (v : ℕ) → value_of ds ≡ Some v → digits_value 10 ds < 2 ^ 64
    small v e = let is = limit_some (digits_value 10 ds) v e in omega (arith, is, limit_is_small (digits_value 10 ds) v e)

pub decimal_digits : (n : ℕ) → n < 2 ^ 64 → list_all is_ascii_digit (decimal n) ≡ true
decimal_digits n small = digits_decimal own n small

pub decimal_value : (n : ℕ) → n < 2 ^ 64 → value_of (decimal n) ≡ Some n
decimal_value n small = ap below_limit (digits_value-decimal own n small) ∙ sym (limit_below n small)

pub decimal_spelling : (n : ℕ) → n < 2 ^ 64 → is_spelling (decimal n) ≡ true
decimal_spelling n small =
    elim (cases_eq n 0) as (λ _. is_spelling (decimal n) ≡ true) [
      | inl none ↦ ap (λ k. is_spelling (decimal k)) none ∙ ap is_spelling (decimal_digit 0 (lit< tt))
      | inr some ↦
          let first : (get_or (decimal n) 0 0 == 48) ≡ false = ne_eqb (get_or (decimal n) 0 0) 48 (omega (arith, first_decimal n (omega arith) small)) in
          and_from _ _ (lt-ltb 0 (length (decimal n)) (decimal_is_IsNumeral n small).0.0) (ap (λ b. not b || length (decimal n) == 1) first)
    ]

-- a text that spells nothing spells fails number, and one whose value is too large spells none below the limit
pub unspelled : (ds : List ℕ) (n : ℕ) → is_spelling ds ≡ false → n < 2 ^ 64 → ds ≡ decimal n → ⊥
unspelled ds n fails small is = true≢false (sym (decimal_spelling n small) ∙ ap is_spelling (sym is) ∙ fails)

pub too_large : (ds : List ℕ) (n : ℕ) → value_of ds ≡ None → n < 2 ^ 64 → ds ≡ decimal n → ⊥
too_large ds n fails small is = let a = sym (decimal_value n small) ∙ ap value_of (sym is) ∙ fails in cc

run_of : (n : ℕ) (rest : List ℕ) → n < 2 ^ 64 → prefix_len is_ascii_digit rest ≡ 0 → prefix_len is_ascii_digit (decimal n ++ rest) ≡ length (decimal n)
run_of n rest small ends =
    let whole = prefix_len_all is_ascii_digit (decimal n) (decimal_digits n small) in
    let e = prefix_len-append is_ascii_digit (decimal n) rest in
    grind (arith, nat_tests, e, whole, ends)

-- a number that is spelled at a position, with fails further digit after it, is the number at that position
pub number_at-decimal : (bytes : List ℕ) (at n : ℕ) (rest : List ℕ) → n < 2 ^ 64 → drop at bytes ≡ decimal n ++ rest
    → prefix_len is_ascii_digit rest ≡ 0 → spelled_number_at bytes at ≡ Some (n, at + length (decimal n))
number_at-decimal bytes at n rest small here ends =
    let run : digits_at bytes at ≡ decimal n
    = ap (λ t. take (prefix_len is_ascii_digit t) t) here
    ∙ ap (λ k. take k (decimal n ++ rest)) (run_of n rest small ends) ∙ take-append_seam (decimal n) rest in
    ap (λ ds. cond (is_spelling ds) (option_map (λ m. (m, at + length ds)) (value_of ds)) None) run
    ∙ ap (λ b. cond b (option_map (λ m. (m, at + length (decimal n))) (value_of (decimal n))) None) (decimal_spelling n small)
    ∙ ap (λ o. option_map (λ m. (m, at + length (decimal n))) o) (decimal_value n small)
