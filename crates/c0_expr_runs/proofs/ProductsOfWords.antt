-- Products and quotients of words.
use Rattle.std.specs.Prelude.{ℤ, pos, negsuc, ◌*ℤ◌, FitsSigned, unsigned_abs}
use Rattle.std.specs.Int.{cast_signed, cast_unsigned, int_wrap, w32, w64}
use Rattle.std.proofs.Common.{◌≡◌, ℕ, ◌*◌, ◌%◌, ◌^◌, ◌<◌, ◌≤◌, refl, ap, ap₂, ◌∙◌, arith, mul-le-mul}
use Rattle.std.proofs.lemmas.Int.{to_z-of_z, unsigned_abs-mul}
use Rattle.mips_table.specs.Arith.{lower, signed_product}
use Rattle.cvm_words.specs.Words.{word_of}
use Rattle.c0_expr_runs.proofs.WordsOfValues.{from_signed}

-- the lower half of a product of 64 bits is the product, wrapped around
wraps : (z : ℤ) → unsigned_abs z < 2 ^ 64 → cast_signed w32 (lower (cast_unsigned w64 z)) ≡ int_wrap w32 z
unfolding int_wrap
wraps (pos a) h = refl
wraps (negsuc a) h = ap (cast_signed w32) (omega arith)

size : (x : ℤ) → FitsSigned w32 x → unsigned_abs x ≤ 2 ^ 31
size (pos a) f = omega (arith, f.sfits)
size (negsuc a) f = omega (arith, f.sfits)

pub word_product : (x y : ℤ) → FitsSigned w32 x → FitsSigned w32 y → lower (signed_product (word_of x) (word_of y)) ≡ word_of (int_wrap w32 (x *ℤ y))
word_product x y f g =
    let e : signed_product (word_of x) (word_of y) ≡ cast_unsigned w64 (x *ℤ y) = ap₂ (λ a b. cast_unsigned w64 (a *ℤ b)) (to_z-of_z w32 x f) (to_z-of_z w32 y g) in
    let small = mul-le-mul (size x f) (size y g) in
    ap lower e ∙ from_signed _ _ (omega arith) (wraps (x *ℤ y) (omega (arith, unsigned_abs-mul x y, small)))

-- of numbers without sign
pub number_product : (a b : ℕ) → a < 2 ^ 31 → b < 2 ^ 31 → lower (signed_product a b) ≡ a * b % 2 ^ 32
number_product a b f g =
    let x : cast_signed w32 (word_of (pos a)) ≡ pos a = to_z-of_z w32 (pos a) (record { sfits = f }) in
    let y : cast_signed w32 (word_of (pos b)) ≡ pos b = to_z-of_z w32 (pos b) (record { sfits = g }) in
    ap₂ (λ u v. lower (cast_unsigned w64 (u *ℤ v))) x y
