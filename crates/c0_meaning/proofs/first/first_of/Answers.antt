-- A checked unit has the function that is searched for, and its number fits 32 bits.
use Rattle.std.proofs.Common.{◌≡◌, ◌<◌, ℕ, true, List, length, map, Option, Some, sym, refl, ap, ◌∙◌, subst, arith}
use Rattle.std.specs.Prelude.{IsSome, position, unwrap_or, ◌^◌}
use Rattle.std.proofs.lemmas.Bool.{and_parts, ltb-true}
use Rattle.std.proofs.lemmas.List.{length-map}
use Rattle.c0_tree.specs.Plain.{is_short, is_plain}
use Rattle.c0_tree.specs.declared.primitive.Program.{Program}
use Rattle.c0_tree.specs.declared.tree.Unit.{Unit as Source}
use Rattle.c0_tree.specs.Tree.{CFunction, CUnit}
use Rattle.c0_tree.specs.View.{function_view, unit_view}
use Rattle.c0_meaning.specs.Limits.{is_first, first_number}
use Rattle.c0_meaning.specs.Unit.{IsCheckedAs}
use Rattle.c0_meaning.proofs.RunsHaveAFirst.{first_inside}
use Rattle.c0_meaning.proofs.first.first_of.Goals as goal

few : (u : CUnit) → is_plain u ≡ true → length u.functions < 2 ^ 32
few u h = ltb-true (length u.functions) (2 ^ 32) (and_parts (is_short u.functions) _ (and_parts (is_short u.globals) _ (and_parts (is_short u.structs) _ h).1).1).0

-- what is found is the number of one of the functions
record IsTold (program : Program) (u : Source) (o : Option ℕ) : Type 0 where
  number : ℕ
  is : o ≡ Some number
  found : position (is_first program) (unit_view u).functions ≡ Some number
  first : number ≡ first_number program (unit_view u)
  there : number < length u.functions.items
  small : number < 2 ^ 32

told : (program : Program) (u : Source) (o : Option ℕ) (fs : List CFunction) → IsCheckedAs program (unit_view u) → o ≡ position (is_first program) fs → fs ≡ (unit_view u).functions
    → IsTold program u o
told program u o fs checked found same =
    let i = first_inside program (unit_view u) checked in
    let many = few (unit_view u) checked.well_formed.plain in
    let as_many = length-map u.functions.items function_view in
    record {
      number = i.0;
      is = found ∙ (ap (position (is_first program)) same ∙ i.1);
      found = i.1;
      first = sym (ap (λ p. unwrap_or p 0) i.1);
      there = omega (arith, i.2, as_many);
      small = omega (arith, i.2, many);
    }

same_number : (o : Option ℕ) (n m : ℕ) → o ≡ Some n → o ≡ Some m → n ≡ m
same_number o n m p q = cc

pub unwrap-number-requires : goal.unwrap-number-requires
unwrap-number-requires c =
    let t = told c.args.program c.args.unit.now c.find_first.result (map function_view c.deref.result.now) c.requires c.find_first.ensures (ap (map function_view) c.deref.ensures.value) in
    subst IsSome (sym t.is) refl

pub overflow_cast-result : goal.overflow_cast-result
overflow_cast-result c =
    let t = told c.args.program c.args.unit.now c.find_first.result (map function_view c.deref.result.now) c.requires c.find_first.ensures (ap (map function_view) c.deref.ensures.value) in
    let e = same_number c.find_first.result c.unwrap-number.result t.number c.unwrap-number.ensures t.is in
    omega (arith, e, t.small)

pub returns : goal.returns
returns c =
    let t = told c.args.program c.args.unit.now c.find_first.result (map function_view c.deref.result.now) c.requires c.find_first.ensures (ap (map function_view) c.deref.ensures.value) in
    let e = same_number c.find_first.result c.unwrap-number.result t.number c.unwrap-number.ensures t.is in
    record { is = e ∙ t.first; found = t.found ∙ ap (λ n. Some n) (sym e); there = omega (arith, e, t.there) }
