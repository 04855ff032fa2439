-- Arguments as words and as ints.
use Rattle.std.proofs.Common.{◌≡◌, ℕ, suc, ◌+◌, ◌-◌, ◌%◌, ◌^◌, ◌<◌, ◌≤◌, ◌⊎◌, ◌&&◌, true, false, nat_lt, nat_le, pos, negsuc, nat_abs, refl, ap, ap₂, ◌∙◌, ⊎_elim, inl, inr, arith, lt-ltb, le-ltb, le-leb}
use Rattle.std.proofs.lemmas.Bool.{cases_lt, cond-true, cond-false}
use Rattle.std.proofs.lemmas.Int.{of_z-to_z, to_z_pos}
use Rattle.std.proofs.lemmas.Bool.{lt-leb}
use Rattle.std.specs.Int.{cast_unsigned, w32}
use Rattle.std.proofs.Math.Facts.{to_z-neg}
use Rattle.mips_table.specs.Arith.{signed, flag}
use Rattle.cvm_model.specs.Primitives.{is_within}

pub flag_of : (a b : ℕ) → ((flag (nat_lt a b) ≡ 1) × (a < b)) ⊎ ((flag (nat_lt a b) ≡ 0) × (b ≤ a))
flag_of a b = ⊎_elim (λ lt. inl (cond-true (nat_lt a b) 1 0 (lt-ltb a b lt), lt)) (λ le. inr (cond-false (nat_lt a b) 1 0 (le-ltb a b le), le)) (cases_lt a b)

-- a word below 2 ^ 31 is itself as an int, and another is negative
pub signed_pos : (x : ℕ) → x < 2 ^ 31 → signed x ≡ pos x
signed_pos x lt = to_z_pos w32 x lt

signed_neg : (x : ℕ) → 2 ^ 31 ≤ x → x < 2 ^ 32 → signed x ≡ negsuc (2 ^ 32 - suc x)
signed_neg x le lt = let e : x ≡ 2 ^ 32 - suc (2 ^ 32 - suc x) = omega arith in ap signed e ∙ to_z-neg w32 (2 ^ 32 - suc x) (omega arith)

-- the test of one less as an unsigned word tells whether an int is one of 1 to high
pub word_in : (high x : ℕ) → high < 2 ^ 31 → x < 2 ^ 32 → (x + 4294967295) % 2 ^ 32 < high → (is_within 1 high (signed x) ≡ true) × (nat_abs (signed x) ≡ x) × (1 ≤ x) × (x ≤ high)
word_in high x sh sx lt =
    let one : 1 ≤ x = omega arith in
    let most : x ≤ high = omega arith in
    let e = signed_pos x (omega arith) in
    (ap (is_within 1 high) e ∙ ap₂ (λ a b. a && b) (le-leb 1 x one) (le-leb x high most), ap nat_abs e, one, most)

pub word_out : (high x : ℕ) → high < 2 ^ 31 → x < 2 ^ 32 → high ≤ (x + 4294967295) % 2 ^ 32 → is_within 1 high (signed x) ≡ false
word_out high x sh sx le = ⊎_elim
    (λ lt. ap (is_within 1 high) (signed_pos x lt) ∙ ⊎_elim
    (λ z. ap (λ b. b && nat_le x high) (lt-leb 1 x z))
    (λ p. ap (λ b. nat_le 1 x && b) (lt-leb x high (omega arith)) ∙ and_no (nat_le 1 x))
    (cases_lt x 1))
    (λ ge. ap (is_within 1 high) (signed_neg x ge sx))
    (cases_lt x (2 ^ 31))
  where
    and_no : (b : _) → (b && false) ≡ false
    and_no true = refl
    and_no false = refl

-- an int that a word was is that word
pub as_word : (x : ℕ) → x < 2 ^ 32 → cast_unsigned w32 (signed x) ≡ x
as_word x lt = of_z-to_z w32 x lt
