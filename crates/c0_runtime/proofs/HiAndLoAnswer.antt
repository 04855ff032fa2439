-- What hi and lo hold after a multiplication or a division, as the words of c0's answers.
use Rattle.std.proofs.Common.{◌≡◌, ◌≢◌, ℕ, zero, suc, ◌+◌, ◌-◌, ◌*◌, ◌/◌, ◌%◌, ◌^◌, ◌<◌, ◌≤◌, refl, sym, ap, ◌∙◌, arith}
use Rattle.std.specs.Prelude.{ℤ, pos, negsuc, ◌*ℤ◌, neg_ℤ, unsigned_abs, Ok, bit_or}
use Rattle.std.specs.Int.{w32, w64, cast_unsigned, int_wrap}
use Rattle.std.specs.Int.RustNames.{FitsSigned, int_div}
use Rattle.std.proofs.lemmas.Int.{of_z-to_z, fits_signed_mul}
use Rattle.std.proofs.lemmas.Nat.{or_shifted}
use Rattle.mips_table.specs.Arith.{lower, signed_product, signed_quotient}
use Rattle.cvm_words.specs.Words.{int_of, word_of, quotient}
use Rattle.c0_meaning.specs.Value.{int}
use Rattle.c0_meaning.specs.Operators.{divided}

-- a number, from its halves
pub halves : (n : ℕ) → bit_or (n / 2 ^ 16 * 2 ^ 16) (n % 2 ^ 16) ≡ n
halves n =
    let small : n % 2 ^ 16 < 2 ^ 16 = omega arith in
    let back : n / 2 ^ 16 * 2 ^ 16 + n % 2 ^ 16 ≡ n = omega arith in
    or_shifted (n / 2 ^ 16) 16 (n % 2 ^ 16) small ∙ back

-- the word of a word's int is that word
pub word_back : (n : ℕ) → n < 2 ^ 32 → word_of (int_of n) ≡ n
word_back n lt = of_z-to_z w32 n lt

-- the lower half of 64 bits is what wraps around
low_word : (z : ℤ) → FitsSigned w64 z → cast_unsigned w64 z % 2 ^ 32 ≡ word_of (int_wrap w32 z)
unfolding int_wrap
low_word (pos a) fits = sym (word_back (a % 2 ^ 32) (omega arith))
low_word (negsuc a) fits =
    let below = fits.sfits in
    let low : (2 ^ 64 - suc a) % 2 ^ 32 ≡ 2 ^ 32 - 1 - a % 2 ^ 32 = omega (arith, below) in
    low ∙ sym (word_back (2 ^ 32 - 1 - a % 2 ^ 32) (omega arith))

-- an int is at most 2 ^ 31 from 0
int_small : (n : ℕ) → n < 2 ^ 32 → unsigned_abs (int_of n) ≤ 2 ^ 31
int_small n lt = grind arith

pub product_word : (a b : ℕ) → a < 2 ^ 32 → b < 2 ^ 32 → lower (signed_product a b) ≡ word_of (int_wrap w32 (int_of a *ℤ int_of b))
product_word a b la lb = low_word (int_of a *ℤ int_of b) (fits_signed_mul w64 (int_of a) (int_of b) (2 ^ 31) (2 ^ 31) (int_small a la)
    (int_small b lb) (omega arith))

-- a word other than 0 means a number other than 0
pub not_zero : (b : ℕ) → b < 2 ^ 32 → b ≢ 0 → int_of b ≢ pos 0
not_zero b lt ne e = ne (sym (word_back b lt) ∙ ap word_of e)

-- what a division by such a number gives
pub by_other : (f : ℤ → ℤ → ℤ) (a b : ℤ) → b ≢ pos 0 → divided f a b ≡ Ok (int (f a b))
by_other f a (pos zero) ne = absurd (ne refl)
by_other f a (pos (suc b)) ne = refl
by_other f a (negsuc b) ne = refl

-- quotients are words
smaller : (a b : ℕ) → a / b ≤ a
smaller a b = grind arith

word_small : (z : ℤ) → unsigned_abs z < 2 ^ 32 → word_of z < 2 ^ 32
word_small (pos n) lt = lt
word_small (negsuc n) lt = omega arith

neg_abs : (n : ℕ) → unsigned_abs (neg_ℤ (pos n)) ≡ n
neg_abs zero = refl
neg_abs (suc n) = refl

abs_quotient : (x y : ℤ) → unsigned_abs (int_div x y) ≤ unsigned_abs x
abs_quotient (pos a) (pos b) = smaller a b
abs_quotient (pos a) (negsuc b) = let e = neg_abs (a / suc b) in let s = smaller a (suc b) in omega (arith, e, s)
abs_quotient (negsuc a) (pos b) = let e = neg_abs (suc a / b) in let s = smaller (suc a) b in omega (arith, e, s)
abs_quotient (negsuc a) (negsuc b) = smaller (suc a) (suc b)

pub quotient_word : (a b : ℕ) → a < 2 ^ 32 → signed_quotient a b ≡ word_of (quotient (int_of a) (int_of b))
quotient_word a b lt =
    let s = int_small a lt in let q = abs_quotient (int_of a) (int_of b) in
    sym (word_back (signed_quotient a b) (word_small (int_div (int_of a) (int_of b)) (omega (arith, s, q))))
