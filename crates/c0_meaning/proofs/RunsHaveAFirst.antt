-- A checked unit has a function with which its run begins: else the fault of a missing one would stand in it.
use Rattle.std.proofs.Common.{◌≡◌, ℕ, suc, ◌+◌, ◌<◌, List, [], ◌∷◌, length, Bool, true, false, cond, refl, ap, ◌∙◌, arith}
use Rattle.std.specs.Prelude.{not, ◌||◌, Some, None, slice_get, position}
use Rattle.std.specs.List.{list_any, prefix_len}
use Rattle.std.proofs.lemmas.Bool.{lt-ltb}
use Rattle.c0_tree.specs.declared.primitive.Program.{Program}
use Rattle.c0_tree.specs.Tree.{CFunction, CUnit}
use Rattle.c0_meaning.specs.DeclaredTypes.{fault_if}
use Rattle.c0_meaning.specs.Limits.{first_faults, is_first, none_first, whole_span}
use Rattle.c0_meaning.specs.RunLaws.{HasFirst}
use Rattle.c0_meaning.specs.Unit.{IsCheckedAs}
use Rattle.c0_meaning.proofs.OwnRegistersOnly.{is_not}

-- the first of functions that passes a test
pub record Found (is : CFunction → Bool) (fs : List CFunction) : Type 0 where
  pub number : ℕ
  pub function : CFunction
  pub first : prefix_len (λ f. not (is f)) fs ≡ number
  pub inside : number < length fs
  pub there : slice_get fs number ≡ Some function
  pub right : is function ≡ true

step : (is : CFunction → Bool) (f : CFunction) (fs : List CFunction) → (list_any is fs ≡ true → Found is fs) → (b : Bool) → is f ≡ b → b || list_any is fs ≡ true → Found is (f ∷ fs)
step is f fs rest true q h = record {
  number = 0;
  function = f;
  first = ap (λ b. cond (not b) (1 + prefix_len (λ g. not (is g)) fs) 0) q;
  inside = omega arith;
  there = refl;
  right = q;
}
step is f fs rest false q h =
    let r = rest h in
    let e : 1 + prefix_len (λ g. not (is g)) fs ≡ suc r.number = omega (arith, r.first) in
    record {
      number = suc r.number;
      function = r.function;
      first = ap (λ b. cond (not b) (1 + prefix_len (λ g. not (is g)) fs) 0) q ∙ e;
      inside = omega (arith, r.inside);
      there = r.there;
      right = r.right;
    }

found : (is : CFunction → Bool) (fs : List CFunction) → list_any is fs ≡ true → Found is fs
found is [] e = absurd (is_not e)
found is (f ∷ fs) e = step is f fs (found is fs) (is f) refl e

-- its number is what the search gives
pub position_found : (is : CFunction → Bool) (fs : List CFunction) → list_any is fs ≡ true → (r : Found is fs) × (position is fs ≡ Some r.number)
position_found is fs h =
    let r = found is fs h in
    let n = prefix_len (λ f. not (is f)) fs in
    let e : position is fs ≡ Some n = ap (λ b. cond b (Some n) None) (lt-ltb n (length fs) (omega (arith, r.first, r.inside))) in
    (r, e ∙ ap (λ k. Some k) r.first)

-- where the fault isn't, there is one
present : (b : Bool) (number n : ℕ) → fault_if (not b) number (whole_span n) ≡ [] → b ≡ true
present true number n e = refl
present false number n e =
    let q : ◌≡◌ {A = ℕ} 1 0 = ap (λ xs. length xs) e in
    absurd (omega (arith, q))

pub some_first : (program : Program) (u : CUnit) → first_faults program u ≡ [] → list_any (is_first program) u.functions ≡ true
some_first program u e = present (list_any (is_first program) u.functions) (none_first program) u.length e

pub has_first : (program : Program) → HasFirst program
has_first program u checked =
    let p = position_found (is_first program) u.functions (some_first program u checked.first) in
    (p.0.number, p.0.function, p.1, p.0.there, p.0.right)

-- and its number is that of one of the functions
pub first_inside : (program : Program) (u : CUnit) → IsCheckedAs program u → (n : ℕ) × (position (is_first program) u.functions ≡ Some n) × (n < length u.functions)
first_inside program u checked =
    let p = position_found (is_first program) u.functions (some_first program u checked.first) in
    (p.0.number, p.1, p.0.inside)
