-- Products with a cap.
use Rattle.std.proofs.Common.{◌≡◌, inl, inr, ℕ, zero, suc, ◌*◌, ◌<◌, ◌≤◌, min, ap, arith}
use Rattle.std.proofs.lemmas.Bool.{cases_lt}
use Rattle.std.proofs.Math.Nat.{mul_comm}

le_product : (a n : ℕ) → 0 < n → a ≤ n * a
le_product a zero h = absurd (omega arith)
le_product a (suc n) h = grind arith

-- a factor may be capped before the product is
pub capped_product : (a n m : ℕ) → min (min a m * n) m ≡ min (n * a) m
capped_product a zero m = grind arith
capped_product a (suc n) m =
    elim (cases_lt a m) [
      | inl below ↦ let e : min a m ≡ a = omega arith in rw e (ap (λ (k : ℕ). min k m) (mul_comm a (suc n)))
      | inr above ↦
          let e : min a m ≡ m = omega arith in
          let p : m ≤ suc n * m = le_product m (suc n) (omega arith) in
          let q : a ≤ suc n * a = le_product a (suc n) (omega arith) in
          let r : m * suc n ≡ suc n * m = mul_comm m (suc n) in
          rw e (omega arith)
    ]

-- a product within the cap is that of the capped factor
pub capped_factor : (a n m k : ℕ) → a * n ≤ k → k ≤ m → min a m * n ≡ a * n
capped_factor a zero m k h le = grind arith
capped_factor a (suc n) m k h le =
    let q : a ≤ suc n * a = le_product a (suc n) (omega arith) in
    let r : a * suc n ≡ suc n * a = mul_comm a (suc n) in
    let e : min a m ≡ a = omega arith in
    ap (λ (x : ℕ). x * suc n) e
