use Rattle.std.proofs.Common.{◌≡◌, get_or, subst, sym, ap, ◌∙◌}
use Rattle.std.specs.Prelude.{option_map}
use Rattle.c0_tree.specs.declared.tree.Function.{Function}
use Rattle.c0_tree.specs.declared.tree.Unit.{Unit as Source}
use Rattle.c0_tree.specs.Tree.{CFunction}
use Rattle.c0_tree.specs.View.{unit_view, function_view}
use Rattle.c0_meaning.specs.Env.{Typed}
use Rattle.c0_meaning.specs.Numbered.{variable_at}
use Rattle.c0_meaning.specs.Sound.{shapes, IsSizedFunction}
use Rattle.c0_meaning.specs.TypeAt.{env_in}
use Rattle.c0_meaning.proofs.SizedTypes.{function_at, function_there}
use Rattle.c0_meaning.proofs.WellFormed.{well_formed_functions}
use Rattle.c0_meaning.proofs.type_at.variable_type.Goals as goal

pub variable_in-requires : goal.variable_in-requires
variable_in-requires c =
    let e : c.index.result.now ≡ get_or c.args.unit.now.functions.items c.args.function c.index.result.now =
    c.index.ensures ∙ ap (λ (u : Source). get_or u.functions.items c.args.function c.index.result.now) c.unit.ensures.same in
    subst (λ (f : Function). IsSizedFunction (shapes (unit_view c.args.unit.now)) (function_view f)) (sym e)
    (function_at (shapes (unit_view c.args.unit.now)) c.args.unit.now.functions.items c.args.function c.index.result.now (well_formed_functions _ _ c.unit.ensures.well_formed.1) c.requires)

pub returns-clause-gives : goal.returns-clause-gives
returns-clause-gives c = λ f h.
    let e : c.index.result.now ≡ get_or c.args.unit.now.functions.items c.args.function c.index.result.now =
    c.index.ensures ∙ ap (λ (u : Source). get_or u.functions.items c.args.function c.index.result.now) c.unit.ensures.same in
    c.variable_in.ensures.gives
    ∙ ap (λ (g : CFunction). option_map (λ (d : Typed). d.ty) (variable_at (env_in (unit_view c.args.unit.now) g) c.args.kind c.args.number))
    (ap function_view e ∙ function_there c.args.unit.now.functions.items c.args.function c.index.result.now f h)
