-- One function more.
use Rattle.std.proofs.Common.{◌≡◌, ◌+◌, ◌<◌, [], ◌∷◌, length, map, subst, ap, ◌∙◌, arith, add-one}
use Rattle.std.specs.Prelude.{Some, slice_get}
use Rattle.std.proofs.lemmas.List.{length-map, map-append}
use Rattle.c0_tree.specs.declared.tree.Unit.{Unit as Source}
use Rattle.c0_tree.specs.Tree.{CFunction}
use Rattle.c0_tree.specs.View.{function_view, unit_view}
use Rattle.c0_typed.specs.Typed.{typed_of_function}
use Rattle.c0_typed.specs.View.{typed_function_view}
use Rattle.c0_typed.proofs.OneFunctionMore.{one_more}
use Rattle.c0_typed.proofs.unit.typed_unit.Goals as goal

pub loop-number-preserved : goal.loop-number-preserved
loop-number-preserved c =
    let u = unit_view c.args.unit.now in
    let lt = c.loop-number-test.true in
    let l = c.len-count.ensures in
    let s = ap (λ (x : Source). x.functions.items) c.unit.ensures.same in
    let below : c.loop-number.number < length u.functions =
    omega (arith, lt, l, c.unit.result.now.functions.ok, ap length s, length-map c.args.unit.now.functions.items function_view) in
    let told : (f : CFunction) → slice_get u.functions c.loop-number.number ≡ Some f → typed_function_view c.in_ok-typed_function.field-0 ≡ typed_of_function u f =
    subst (λ (x : Source). (f : CFunction) → slice_get (unit_view x).functions c.loop-number.number ≡ Some f → typed_function_view c.in_ok-typed_function.field-0 ≡ typed_of_function (unit_view x) f)
    c.in_ok-seen.ensures c.in_ok-typed_function.ensures in
    ap (map typed_function_view) c.in_ok-push.ensures.items
    ∙ map-append typed_function_view c.loop-number.all.items (c.in_ok-typed_function.field-0 ∷ [])
    ∙ one_more (typed_of_function u) u.functions c.loop-number.number (c.loop-number.number + 1) (map typed_function_view c.loop-number.all.items) (typed_function_view c.in_ok-typed_function.field-0)
    (add-one c.loop-number.number) below c.loop-number.invariant told
