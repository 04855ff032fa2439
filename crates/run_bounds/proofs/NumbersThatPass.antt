-- Counts of the numbers below one that pass a test.
use Rattle.std.proofs.Common.{◌≡◌, ◌≢◌, ℕ, zero, suc, ◌≤◌, Bool, true, false, cond, refl, arith}
use Rattle.std.specs.Prelude.{◌==◌}
use Rattle.std.proofs.lemmas.Bool.{eqb-false}
use Rattle.std.proofs.Common.{eqb-true}
use Rattle.run_bounds.specs.Lines.{count_below}

-- tests that agree below a number count the same
pub same_below : (f g : ℕ → Bool) (n : ℕ) → ((t : ℕ) → suc t ≤ n → f t ≡ g t) → count_below f n ≡ count_below g n
same_below f g zero e = refl
same_below f g (suc n) e =
    let here : f n ≡ g n = e n (omega arith) in
    let before : count_below f n ≡ count_below g n = same_below f g n (λ t lt. e t (omega arith)) in
    by (f n) (g n) here (count_below f n) (count_below g n) before
  where
    by : (a b : Bool) → a ≡ b → (i j : ℕ) → i ≡ j → cond a (suc i) i ≡ cond b (suc j) j
    by a b e i j d = rw (e, d) refl

-- none passes a test that fails everywhere
pub none_below : (n : ℕ) → count_below (λ t. false) n ≡ 0
none_below zero = refl
none_below (suc n) = none_below n

-- tests that agree but at one number count at most one apart
pub one_apart : (f g : ℕ → Bool) (at : ℕ) → ((t : ℕ) → t ≢ at → f t ≡ g t) → (n : ℕ) → count_below f n ≤ suc (count_below g n)
one_apart f g at e zero = omega arith
one_apart f g at e (suc n) = by (n == at) refl (one_apart f g at e n)
  where
    raises : (a b : Bool) (i j : ℕ) → i ≡ j → cond a (suc i) i ≤ suc (cond b (suc j) j)
    raises true true i j d = omega arith
    raises true false i j d = omega arith
    raises false true i j d = omega arith
    raises false false i j d = omega arith

    keeps : (a b : Bool) → a ≡ b → (i j : ℕ) → i ≤ suc j → cond a (suc i) i ≤ suc (cond b (suc j) j)
    keeps true true e i j le = omega arith
    keeps false false e i j le = le
    keeps true false e i j le = absurd (cc)
    keeps false true e i j le = absurd (cc)

    by : (b : Bool) → (n == at) ≡ b → count_below f n ≤ suc (count_below g n) → count_below f (suc n) ≤ suc (count_below g (suc n))
    by true is before =
        let here : n ≡ at = eqb-true n at is in
        raises (f n) (g n) (count_below f n) (count_below g n) (same_below f g n (λ t lt. e t (λ z. absurd (omega (arith, here, z, lt)))))
    by false isnt before = keeps (f n) (g n) (e n (eqb-false n at isnt)) (count_below f n) (count_below g n) before
