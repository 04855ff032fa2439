use Rattle.std.proofs.Common.{◌≡◌, get_or, subst, sym, ap, ◌∙◌}
use Rattle.std.specs.Prelude.{IfOk}
use Rattle.c0_tree.specs.declared.tree.Function.{Function}
use Rattle.c0_tree.specs.declared.tree.Unit.{Unit as Source}
use Rattle.c0_tree.specs.Tree.{CFunction}
use Rattle.c0_tree.specs.View.{unit_view, function_view}
use Rattle.c0_meaning.specs.Offsets.{offsets}
use Rattle.c0_meaning.specs.Sound.{shapes, IsSizedFunction}
use Rattle.c0_meaning.specs.TypedState.{variable_types}
use Rattle.c0_meaning.proofs.SizedTypes.{function_at, function_there}
use Rattle.c0_meaning.proofs.WellFormed.{well_formed_functions}
use Rattle.c0_meaning.proofs.offsets.variable_offsets.Goals as goal

pub function_offsets-requires : goal.function_offsets-requires
function_offsets-requires c =
    let e : c.index.result.now ≡ get_or c.args.unit.now.functions.items c.args.function c.index.result.now =
    c.index.ensures ∙ ap (λ (u : Source). get_or u.functions.items c.args.function c.index.result.now) c.unit.ensures.same in
    subst (λ (f : Function). IsSizedFunction (shapes (unit_view c.args.unit.now)) (function_view f)) (sym e)
    (function_at (shapes (unit_view c.args.unit.now)) c.args.unit.now.functions.items c.args.function c.index.result.now (well_formed_functions _ _ c.unit.ensures.well_formed.1) c.requires)

pub returns : goal.returns
returns c = λ f h.
    let e : c.index.result.now ≡ get_or c.args.unit.now.functions.items c.args.function c.index.result.now =
    c.index.ensures ∙ ap (λ (u : Source). get_or u.functions.items c.args.function c.index.result.now) c.unit.ensures.same in
    subst (λ (g : CFunction). IfOk c.function_offsets.result (λ v. v.items ≡ offsets (shapes (unit_view c.args.unit.now)) (variable_types g)))
    (ap function_view e ∙ function_there c.args.unit.now.functions.items c.args.function c.index.result.now f h) c.function_offsets.ensures
