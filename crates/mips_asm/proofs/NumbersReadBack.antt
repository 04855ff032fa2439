-- Numbers fit, and what is written reads back.
use Rattle.std.proofs.Common.{◌≡◌, ap, refl, not, ◌||◌, ◌==◌, nat_lt, nat_le, slice_index, lit<, true≢false, ◌-◌, Bool, zero, suc, ℕ, ◌+◌, ◌*◌, ◌^◌, ◌<◌, ◌≤◌, ◌&&◌, true, false, List, [], ◌∷◌, length, take, get_or, sym, arith}
use Rattle.std.specs.List.{list_all}
use Rattle.std.specs.Char.{is_ascii_digit, is_ascii_hexdigit, digit_value}
use Rattle.std.specs.Str.Parse.{digits_value}
use Rattle.std.specs.Str.Parse.{AllDigits}
use Rattle.std.proofs.lemmas.Bool.{leb-true}
use Rattle.std.proofs.Math.Nat.{pow-le-pow_right}
use Rattle.std.proofs.lemmas.Bool.Decides.{nat_tests}
use Rattle.std.proofs.lemmas.Int.Digits.{digits_value-lt, digits_value_more}
use Rattle.std.proofs.lemmas.Str.Parse.{digits_value-take-le}
use Rattle.mips_asm.specs.Number.{is_decimal, is_hexadecimal}

pub next_fits : (radix : ℕ) (ds : List ℕ) (i n : ℕ) → 1 ≤ radix → i < length ds → n ≡ digits_value radix (take i ds)
    → n * radix + digit_value (get_or ds i 0) ≤ digits_value radix ds
next_fits radix ds i n some inside e =
    let more = digits_value_more radix ds i inside in
    let le = digits_value-take-le radix ds (i + 1) some in
    subst_le (sym (step e)) le more
  where
    step : n ≡ digits_value radix (take i ds) → n * radix ≡ digits_value radix (take i ds) * radix
    step h = ap (λ k. k * radix) h

    subst_le : digits_value radix (take i ds) * radix ≡ n * radix → digits_value radix (take (i + 1) ds) ≤ digits_value radix ds
        → digits_value radix (take (i + 1) ds) ≡ digits_value radix (take i ds) * radix + digit_value (get_or ds i 0)
        → n * radix + digit_value (get_or ds i 0) ≤ digits_value radix ds
    subst_le a b m = omega (arith, a, b, m)

both : (a b : Bool) → (a && b) ≡ true → (a ≡ true) × (b ≡ true)
both true b h = (refl, h)
both false b h = (h, absurd (true≢false (sym h)))

pub all_at : {X : Type 0} (p : X → Bool) (xs : List X) (i : ℕ) (d : X) → list_all p xs ≡ true → i < length xs → p (get_or xs i d) ≡ true
all_at p [] i d h inside = absurd (omega arith)
all_at p (x ∷ xs) zero d h inside = (both _ _ h).0
all_at p (x ∷ xs) (suc i) d h inside = all_at p xs i d (both _ _ h).1 (omega arith)

pub digit_is : (c n : ℕ) → is_ascii_digit c ≡ true → n ≡ c - 48 → digit_value c ≡ n
digit_is c n h e = grind (arith, nat_tests)

decimal_digits : (ds : List ℕ) → list_all is_ascii_digit ds ≡ true → AllDigits 10 ds
decimal_digits [] h = tt
decimal_digits (c ∷ cs) h = let d = (both _ _ h).0 in (below c d, decimal_digits cs (both _ _ h).1)
  where
    below : (c : ℕ) → is_ascii_digit c ≡ true → digit_value c < 10
    below c d = grind (arith, nat_tests)

hexadecimal_digits : (ds : List ℕ) → list_all is_ascii_hexdigit ds ≡ true → AllDigits 16 ds
hexadecimal_digits [] h = tt
hexadecimal_digits (c ∷ cs) h = let d = (both _ _ h).0 in (below c d, hexadecimal_digits cs (both _ _ h).1)
  where
    below : (c : ℕ) → is_ascii_hexdigit c ≡ true → digit_value c < 16
    below c d = grind (arith, nat_tests)

pub record IsDecimal (ds : List ℕ) : Type 0 where
  pub digits : list_all is_ascii_digit ds ≡ true
  pub small : digits_value 10 ds < 10 ^ 10

pub decimal_fits : (ds : List ℕ) → is_decimal ds ≡ true → IsDecimal ds
decimal_fits ds h =
    let some = nat_lt 0 (length ds) in
    let short = nat_le (length ds) 10 in
    let all = list_all is_ascii_digit ds in
    let a = both (some && short && all) (not (slice_index ds 0 == 48) || length ds == 1) h in
    let b = both (some && short) all a.0 in
    let c = both some short b.0 in
    let lt = digits_value-lt 10 ds (decimal_digits ds b.1) in
    record { digits = b.1; small = omega (arith, lt, pow-le-pow_right {n = 10} (lit< tt) (leb-true (length ds) 10 c.1)) }

pub decimal_small : (ds : List ℕ) → is_decimal ds ≡ true → digits_value 10 ds < 10 ^ 10
decimal_small ds h = (decimal_fits ds h).small

pub hexadecimal_fits : (ds : List ℕ) → is_hexadecimal ds ≡ true → digits_value 16 ds < 2 ^ 32
hexadecimal_fits ds h =
    let some = nat_lt 0 (length ds) in
    let short = nat_le (length ds) 8 in
    let all = list_all is_ascii_hexdigit ds in
    let a = both (some && short) all h in
    let c = both some short a.0 in
    let lt = digits_value-lt 16 ds (hexadecimal_digits ds a.1) in
    omega (arith, lt, pow-le-pow_right {n = 16} (lit< tt) (leb-true (length ds) 8 c.1))
