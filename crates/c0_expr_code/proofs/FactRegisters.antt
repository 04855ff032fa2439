-- The registers that have words of variables: register 2, and those of arguments.
use Rattle.std.specs.Prelude.{get_or, ◌&&◌}
use Rattle.std.proofs.Common.{◌≡◌, ℕ, ◌<◌, Bool, true, false, cond, nat_lt, Option, Some, None, refl, arith}
use Rattle.std.proofs.lemmas.Bool.{ltb-true}
use Rattle.c0_expr_code.specs.declared.facts.Facts.{Facts}
use Rattle.c0_expr_code.specs.Facts.{holds_answer, holds_param, register_holding, register_of_variable}

first_of : (a b : Bool) → (a && b) ≡ true → a ≡ true
first_of true b h = refl
first_of false b h = absurd (cc)

-- a parameter that has a register is one of the first eight
pub param_below : (fs : Facts) (n : ℕ) → holds_param fs n ≡ true → n < 8
param_below fs n h = ltb-true n 8 (first_of (nat_lt n 8) (get_or fs.params n false) h)

-- a register that has a variable's word is one of the machine's
pub holding_small : (fs : Facts) (n q : ℕ) → register_holding fs n ≡ Some q → q < 32
holding_small fs n = by_answer (holds_answer fs.answer n) (holds_param fs n)
  where
    some_is : (a q : ℕ) → ◌≡◌ {A = Option ℕ} (Some a) (Some q) → a < 32 → q < 32
    some_is a q e h = let z : a ≡ q = cc in omega (arith, z, h)

    by_answer : (a b : Bool) (q : ℕ) → cond a (Some 2) (cond b (Some (register_of_variable n)) None) ≡ Some q → q < 32
    by_answer true b q e = some_is 2 q e (omega arith)
    by_answer false true q e = some_is (register_of_variable n) q e (omega arith)
    by_answer false false q e = absurd (cc)
