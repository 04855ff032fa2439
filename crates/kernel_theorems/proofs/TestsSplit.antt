-- The tests at which a kernel's code is stuck, each split in two: with the equation that lets it go on, and what that says of the numbers. This file may be
-- cited from other crates.
use Rattle.std.proofs.Common.{◌≡◌, ◌≢◌, ℕ, ◌+◌, ◌<◌, ◌^◌, Bool, true, false, nat_lt, refl, sym, ap, ◌∙◌, arith}
use Rattle.std.specs.Prelude.{ℤ, pos, ◌==◌, ◌&&◌, ◌+ℤ◌, FitsSigned}
use Rattle.std.specs.Int.{int_wrap, w32}
use Rattle.std.specs.Ordering.{int_eq}
use Rattle.std.proofs.lemmas.Bool.{ltb-true, ltb-false, eqb-true, eqb-false, eq-eqb, ne_eqb}
use Rattle.std.proofs.lemmas.Int.{int_wrap_fits}

-- BOOLEANS
pub not_both : (b : Bool) → b ≡ true → b ≡ false → ⊥
not_both true e f = absurd (cc)
not_both false e f = absurd (cc)

pub left_of : (a b : Bool) → (a && b) ≡ true → a ≡ true
left_of true b e = refl
left_of false b e = absurd (cc)

pub and_false : (a : Bool) → (a && false) ≡ false
and_false true = refl
and_false false = refl

-- A TEST, both ways
pub by_test : {P : Type 0} → (b : Bool) → (b ≡ true → P) → (b ≡ false → P) → P
by_test true holds fails = holds refl
by_test false holds fails = fails refl

-- two numbers of definitions
pub by_same : {P : Type 0} → (a b : ℕ) → ((a == b) ≡ true → a ≡ b → P) → ((a == b) ≡ false → a ≢ b → P) → P
by_same a b holds fails = by_test (a == b) (λ e. holds e (eqb-true a b e)) (λ e. fails e (eqb-false a b e))

-- and of code
pub test_is : (a b : ℕ) → int_eq (pos a) (pos b) ≡ (a == b)
test_is a b = by_test (nat_lt a b)
    (λ e. rw e (sym (ne_eqb a b (λ s. let h = ltb-true a b e in omega (arith, h, s)))))
    (λ e. by_test (nat_lt b a)
    (λ f. rw (e, f) (sym (ne_eqb a b (λ s. let h = ltb-true b a f in omega (arith, h, s)))))
    (λ f. rw (e, f) (sym (eq-eqb a b (let h = ltb-false a b e in let g = ltb-false b a f in omega (arith, h, g))))))

pub by_equal : {P : Type 0} → (a b : ℕ) → (int_eq (pos a) (pos b) ≡ true → a ≡ b → P) → (int_eq (pos a) (pos b) ≡ false → a ≢ b → P) → P
by_equal a b holds fails = by_same a b (λ e same. holds (test_is a b ∙ e) same) (λ e other. fails (test_is a b ∙ e) other)

-- SMALL NUMBERS are ints, and so is a sum that is small: the value that was found is known by an equation
pub small_fits : (n : ℕ) → n < 2 ^ 31 → FitsSigned w32 (pos n)
small_fits n small = record { sfits = omega (arith, small) }

pub small_sum : (old value new : ℕ) (found : ℤ) → found ≡ pos value → old + value ≡ new → new < 2 ^ 31 → int_wrap w32 (pos old +ℤ found) ≡ pos new
small_sum old value new found is sum small =
    ap (λ z. int_wrap w32 (pos old +ℤ z)) is ∙ ap (λ i. int_wrap w32 (pos i)) sum ∙ int_wrap_fits w32 (pos new) (small_fits new small)
