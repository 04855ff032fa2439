-- Words of values, and what the instructions make of them.
use Rattle.std.specs.Prelude.{ℤ, pos, negsuc, ◌+ℤ◌, ◌-ℤ◌, neg_ℤ, int_lt, int_le, FitsSigned, bit_or, bit_xor}
use Rattle.std.specs.Int.{cast_signed, int_wrap, w32}
use Rattle.std.specs.Int.Bits.{xor_self, xor_add_and}
use Rattle.std.specs.Ordering.{int_eq}
use Rattle.std.proofs.Common.{◌≡◌, inl, inr, ℕ, zero, suc, ◌+◌, ◌*◌, ◌-◌, ◌/◌, ◌%◌, ◌^◌, ◌<◌, ◌≤◌, Bool, true, false, not, nat_lt, nat_eq, cond, refl, sym, ap, ap₂, ◌∙◌, arith, lt-ltb, le-ltb, eq-eqb, ne_eqb}
use Rattle.std.proofs.lemmas.Bool.{ltb-true, ltb-false, cases_eq, cases_Bool, cond-true, cond-false, cond_both}
use Rattle.std.proofs.lemmas.Bool.Decides.{Decides-int_eq}
use Rattle.std.proofs.lemmas.Int.{ints, to_z-of_z, of_z-to_z, wrapping_add_onto, wrapping_sub_onto}
use Rattle.std.proofs.lemmas.Nat.{or_shifted, and_le_l, and_le_r}
use Rattle.mips_table.specs.Arith.{sum, difference, less, flag, extended}
use Rattle.cvm_words.specs.Words.{word_of}

pub word_below : (x : ℤ) → FitsSigned w32 x → word_of x < 2 ^ 32
word_below x f = omega (arith, ints)

pub from_signed : (n : ℕ) (x : ℤ) → n < 2 ^ 32 → cast_signed w32 n ≡ x → n ≡ word_of x
from_signed n x below e = sym (of_z-to_z w32 n below) ∙ ap word_of e

pub word_sum : (x y : ℤ) → FitsSigned w32 x → FitsSigned w32 y → sum (word_of x) (word_of y) ≡ word_of (int_wrap w32 (x +ℤ y))
word_sum x y f g =
    from_signed _ _ (omega arith) (wrapping_add_onto w32 (word_of x) y (word_below x f) g ∙ ap (λ v. int_wrap w32 (v +ℤ y)) (to_z-of_z w32 x f))

pub word_difference : (x y : ℤ) → FitsSigned w32 x → FitsSigned w32 y → difference (word_of x) (word_of y) ≡ word_of (int_wrap w32 (x -ℤ y))
word_difference x y f g =
    from_signed _ _ (omega arith) (wrapping_sub_onto w32 (word_of x) y (word_below x f) g ∙ ap (λ v. int_wrap w32 (v -ℤ y)) (to_z-of_z w32 x f))

pub word_negative : (x : ℤ) → FitsSigned w32 x → difference 0 (word_of x) ≡ word_of (int_wrap w32 (neg_ℤ x))
word_negative x f = from_signed _ _ (omega arith) (wrapping_sub_onto w32 0 x (omega arith) f ∙ ap (int_wrap w32) (zero_less x))
  where
    zero_less : (x : ℤ) → cast_signed w32 0 -ℤ x ≡ neg_ℤ x
    zero_less (pos zero) = refl
    zero_less (pos (suc n)) = omega (arith, ints)
    zero_less (negsuc n) = omega (arith, ints)

pub word_less : (x y : ℤ) → FitsSigned w32 x → FitsSigned w32 y → less (word_of x) (word_of y) ≡ int_lt x y
word_less x y f g = ap₂ int_lt (to_z-of_z w32 x f) (to_z-of_z w32 y g)

-- a number, from its halves
pub halves : (n : ℕ) → bit_or (n / 2 ^ 16 * 2 ^ 16) (n % 2 ^ 16) ≡ n
halves n =
    let small : n % 2 ^ 16 < 2 ^ 16 = omega arith in
    let back : n / 2 ^ 16 * 2 ^ 16 + n % 2 ^ 16 ≡ n = omega arith in
    or_shifted (n / 2 ^ 16) 16 (n % 2 ^ 16) small ∙ back

pub word_pos : (i : ℕ) → FitsSigned w32 (pos i) → word_of (pos i) ≡ i
word_pos i f = omega (arith, ints)

pub pos_small : (i : ℕ) → FitsSigned w32 (pos i) → i < 2 ^ 31
pos_small i f = let h = f.sfits in omega (arith, h)

pub word_negsuc : (i : ℕ) → FitsSigned w32 (negsuc i) → 2 ^ 31 ≤ word_of (negsuc i)
word_negsuc i f = let h = f.sfits in omega (arith, ints, h)

-- whether two words are the same
xor_none : (a b : ℕ) → bit_xor a b ≡ 0 → a ≡ b
xor_none a b e =
    let s = xor_add_and a b in
    let l = and_le_l a b in
    let r = and_le_r a b in
    omega (arith, e, s, l, r)

pub xor_tests : (a b : ℕ) → nat_lt (bit_xor a b) 1 ≡ nat_eq a b
xor_tests a b = elim (cases_eq a b) [
  | inl e ↦ ap (λ x. nat_lt x 1) (ap (λ y. bit_xor a y) (sym e) ∙ xor_self a) ∙ sym (eq-eqb a b e)
  | inr ne ↦ by_zero (bit_xor a b) refl ne
]
  where
    by_zero : (x : ℕ) → bit_xor a b ≡ x → (a ≡ b → ⊥) → nat_lt (bit_xor a b) 1 ≡ nat_eq a b
    by_zero zero e ne = absurd (ne (xor_none a b e))
    by_zero (suc x) e ne = ap (λ y. nat_lt y 1) e ∙ le-ltb (suc x) 1 (omega arith) ∙ sym (ne_eqb a b ne)

pub xor_differs : (a b : ℕ) → nat_lt 0 (bit_xor a b) ≡ not (nat_eq a b)
xor_differs a b = elim (cases_eq a b) [
  | inl e ↦ ap (λ x. nat_lt 0 x) (ap (λ y. bit_xor a y) (sym e) ∙ xor_self a) ∙ ap not (sym (eq-eqb a b e))
  | inr ne ↦ by_zero (bit_xor a b) refl ne
]
  where
    by_zero : (x : ℕ) → bit_xor a b ≡ x → (a ≡ b → ⊥) → nat_lt 0 (bit_xor a b) ≡ not (nat_eq a b)
    by_zero zero e ne = absurd (ne (xor_none a b e))
    by_zero (suc x) e ne = ap (λ y. nat_lt 0 y) e ∙ lt-ltb 0 (suc x) (omega arith) ∙ ap not (sym (ne_eqb a b ne))

pub int_words : (x y : ℤ) → FitsSigned w32 x → FitsSigned w32 y → int_eq x y ≡ nat_eq (word_of x) (word_of y)
int_words x y f g = elim (cases_Bool (int_eq x y)) [
  | inl e ↦ e ∙ sym (eq-eqb _ _ (ap word_of ((Decides-int_eq x y).0 e)))
  | inr e ↦ e ∙ sym (ne_eqb _ _ (λ q. both e ((Decides-int_eq x y).1 (sym (to_z-of_z w32 x f) ∙ ap (cast_signed w32) q ∙ to_z-of_z w32 y g))))
]
  where
    both : int_eq x y ≡ false → int_eq x y ≡ true → ⊥
    both e h = let q : false ≡ true = sym e ∙ h in absurd (cc)

pub bool_words : (a b : Bool) → cond a b (not b) ≡ nat_eq (flag a) (flag b)
bool_words true true = refl
bool_words true false = refl
bool_words false true = refl
bool_words false false = refl

pub not_flag : (b : Bool) → bit_xor (flag b) 1 ≡ flag (not b)
not_flag true = refl
not_flag false = refl

-- the int at least
pub not_less : (x y : ℤ) → not (int_lt y x) ≡ int_le x y
not_less x y = grind (arith, ints)

pub plain : (n : ℕ) → n < 2 ^ 15 → extended n ≡ n
plain n h = cond-true (nat_lt n (2 ^ 15)) n _ (lt-ltb n (2 ^ 15) h)

pub extended_small : (n : ℕ) → n < 2 ^ 16 → extended n < 2 ^ 32
extended_small n h = cond_both (nat_lt n (2 ^ 15)) n (n + (2 ^ 32 - 2 ^ 16)) (λ x. x < 2 ^ 32) (λ e. omega arith) (λ e. omega arith)

-- a displacement: its low half, extended, and its high half
pub near_is : (k a : ℕ) → extended (k % 2 ^ 16) ≡ k → sum a (extended (k % 2 ^ 16)) ≡ (a + k) % 2 ^ 32
near_is k a e = ap (sum a) e

pub far_is : (k a : ℕ) → sum (sum a ((k + 2 ^ 15) / 2 ^ 16 % 2 ^ 16 * 2 ^ 16)) (extended (k % 2 ^ 16)) ≡ (a + k) % 2 ^ 32
far_is k a = elim (cases_Bool (nat_lt (k % 2 ^ 16) (2 ^ 15))) [
  | inl e ↦ let h = ltb-true (k % 2 ^ 16) (2 ^ 15) e in ap (sum _) (cond-true (nat_lt (k % 2 ^ 16) (2 ^ 15)) (k % 2 ^ 16) (k % 2 ^ 16 + (2 ^ 32 - 2 ^ 16)) e) ∙ omega arith
  | inr e ↦ let h = ltb-false (k % 2 ^ 16) (2 ^ 15) e in ap (sum _) (cond-false (nat_lt (k % 2 ^ 16) (2 ^ 15)) (k % 2 ^ 16) (k % 2 ^ 16 + (2 ^ 32 - 2 ^ 16)) e) ∙ omega arith
]
