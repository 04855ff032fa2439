-- Which register has the word of a variable, and that code keeps it.
use Rattle.std.proofs.Common.{◌≡◌, ℕ, ◌+◌, inl, inr, ◌⊎◌, Bool, true, false, cond, Option, Some, None, refl, sym, subst, arith}
use Rattle.c0_expr_code.specs.declared.facts.Facts.{Facts}
use Rattle.c0_expr_code.specs.Facts.{holds_answer, holds_param, register_holding, register_of_variable}
use Rattle.c0_expr_runs.specs.Relation.{Source, answer, far}
use Rattle.c0_expr_code.proofs.FactRegisters.{param_below}

-- which register that is
pub held_in : (fs : Facts) (n q : ℕ) → register_holding fs n ≡ Some q
    → ((holds_answer fs.answer n ≡ true) × (q ≡ 2)) ⊎ ((holds_param fs n ≡ true) × (q ≡ 20 + n))
held_in fs n q = by_answer (holds_answer fs.answer n) refl (holds_param fs n) refl
  where
    same : (a b : ℕ) → ◌≡◌ {A = Option ℕ} (Some a) (Some b) → b ≡ a
    same a b e = cc

    by_answer : (a : Bool) → holds_answer fs.answer n ≡ a → (b : Bool) → holds_param fs n ≡ b
        → cond a (Some 2) (cond b (Some (register_of_variable n)) None) ≡ Some q → ((holds_answer fs.answer n ≡ true) × (q ≡ 2)) ⊎ ((holds_param fs n ≡ true) × (q ≡ 20 + n))
    by_answer true ha b hb e = inl (ha, same 2 q e)
    by_answer false ha true hb e = let z = same (register_of_variable n) q e in let few = param_below fs n hb in inr (hb, omega (arith, z, few))
    by_answer false ha false hb e = absurd (cc)

-- code keeps it
pub held_source : (fs : Facts) (n q r : ℕ) → register_holding fs n ≡ Some q → Source r q
held_source fs n q r e = elim (held_in fs n q e) [
  | inl z ↦ subst (λ x. Source r x) (sym z.1) answer
  | inr z ↦ let w = z.1 in far (omega (arith, w))
]
