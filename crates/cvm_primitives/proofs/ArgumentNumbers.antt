-- Arguments as words and as ints.
use Rattle.std.proofs.Common.{◌≡◌, ℕ, suc, ◌+◌, ◌-◌, ◌*◌, ◌/◌, ◌%◌, ◌^◌, ◌<◌, ◌≤◌, ◌⊎◌, ◌&&◌, Bool, true, false, nat_eq, nat_lt, nat_le, pos, negsuc, nat_abs, refl, ap, ap₂, ◌∙◌, ⊎_elim, inl, inr, arith, lt-ltb, le-ltb, le-leb, eq-eqb, ne_eqb}
use Rattle.std.proofs.lemmas.Bool.{cases_eq, cases_lt, lt-leb}
use Rattle.std.proofs.lemmas.Int.{of_z-to_z, to_z_pos}
use Rattle.std.proofs.Math.Facts.{to_z-neg}
use Rattle.std.specs.Int.{cast_unsigned, w32}
use Rattle.mips_table.specs.Arith.{signed}
use Rattle.mips_table.specs.Flat.{Flat}
use Rattle.cvm_model.specs.Primitives.{pages_of, is_within, is_address, ranges_overlap}
use Rattle.cvm_primitives.specs.Copy.{Apart}

-- a word below 2 ^ 31 is itself as an int, and another is negative
pub signed_pos : (x : ℕ) → x < 2 ^ 31 → signed x ≡ pos x
signed_pos x lt = to_z_pos w32 x lt

pub signed_neg : (x : ℕ) → 2 ^ 31 ≤ x → x < 2 ^ 32 → signed x ≡ negsuc (2 ^ 32 - suc x)
signed_neg x le lt = let e : x ≡ 2 ^ 32 - suc (2 ^ 32 - suc x) = omega arith in ap signed e ∙ to_z-neg w32 (2 ^ 32 - suc x) (omega arith)

pub as_word : (x : ℕ) → x < 2 ^ 32 → cast_unsigned w32 (signed x) ≡ x
as_word x lt = of_z-to_z w32 x lt

pub and_false : (b : Bool) → (b && false) ≡ false
and_false true = refl
and_false false = refl

-- an int is one of low to high, or not
pub within_is : (l high x : ℕ) → high < 2 ^ 31 → x < 2 ^ 32 → ((l ≤ x) × (x ≤ high) × (is_within l high (signed x) ≡ true) × (nat_abs (signed x) ≡ x)) ⊎ ((l ≤ x → x ≤ high → ⊥) × (is_within l high (signed x) ≡ false))
within_is l high x sh sx = ⊎_elim
    (λ lt. let e = signed_pos x lt in ⊎_elim
    (λ a. inr (λ b c. absurd (omega arith), ap (is_within l high) e ∙ ap (λ b. b && nat_le x high) (lt-leb l x a)))
    (λ a. ⊎_elim
    (λ b. inr (λ c k. absurd (omega arith), ap (is_within l high) e ∙ ap (λ c. nat_le l x && c) (lt-leb x high b) ∙ and_false (nat_le l x)))
    (λ b. inl (a, b, ap (is_within l high) e ∙ ap₂ (λ c k. c && k) (le-leb l x a) (le-leb x high b), ap nat_abs e))
    (cases_lt high x))
    (cases_lt x l))
    (λ ge. inr (λ a b. absurd (omega arith), ap (is_within l high) (signed_neg x ge sx)))
    (cases_lt x (2 ^ 31))

-- an int is the address of n words in a memory, or not
pub place_is : (f : Flat) (a n : ℕ) → pages_of f ≤ 1024 → a < 2 ^ 32 → ((a % 4 ≡ 0) × (a + 4 * n ≤ 4096 * pages_of f) × (is_address f (signed a) n ≡ true) × (nat_abs (signed a) ≡ a)) ⊎ ((a % 4 ≡ 0 → a + 4 * n ≤ 4096 * pages_of f → ⊥) × (is_address f (signed a) n ≡ false))
place_is f a n most sa = ⊎_elim
    (λ lt. let e = signed_pos a lt in ⊎_elim
    (λ z. ⊎_elim
    (λ b. inr (λ c k. absurd (omega arith), ap (λ z. is_address f z n) e ∙ ap (λ c. nat_eq (a % 4) 0 && c) (lt-leb (a + 4 * n) (4096 * pages_of f) b) ∙ and_false (nat_eq (a % 4) 0)))
    (λ b. inl (z, b, ap (λ z. is_address f z n) e ∙ ap₂ (λ c k. c && k) (eq-eqb (a % 4) 0 z) (le-leb (a + 4 * n) (4096 * pages_of f) b), ap nat_abs e))
    (cases_lt (4096 * pages_of f) (a + 4 * n)))
    (λ z. inr (λ c k. absurd (z c), ap (λ z. is_address f z n) e ∙ ap (λ c. c && nat_le (a + 4 * n) (4096 * pages_of f)) (ne_eqb (a % 4) 0 z)))
    (cases_eq (a % 4) 0))
    (λ ge. inr (λ c k. absurd (omega arith), ap (λ z. is_address f z n) (signed_neg a ge sa)))
    (cases_lt a (2 ^ 31))

-- two ranges share a word, or not
pub overlap_is : (a b n : ℕ) → a % 4 ≡ 0 → b % 4 ≡ 0 → ((Apart (a / 4) (b / 4) n) × (ranges_overlap a b n ≡ false)) ⊎ ((Apart (a / 4) (b / 4) n → ⊥) × (ranges_overlap a b n ≡ true))
overlap_is a b n za zb = ⊎_elim
    (λ x. ⊎_elim
    (λ y. inr (λ o. ⊎_elim (λ h. absurd (omega arith)) (λ h. absurd (omega arith)) o, ap₂ (λ c k. c && k) (lt-ltb a (b + 4 * n) x) (lt-ltb b (a + 4 * n) y)))
    (λ y. inl (inl (omega arith), ap (λ k. nat_lt a (b + 4 * n) && k) (le-ltb b (a + 4 * n) y) ∙ and_false (nat_lt a (b + 4 * n))))
    (cases_lt b (a + 4 * n)))
    (λ x. inl (inr (omega arith), ap (λ c. c && nat_lt b (a + 4 * n)) (le-ltb a (b + 4 * n) x)))
    (cases_lt a (b + 4 * n))
