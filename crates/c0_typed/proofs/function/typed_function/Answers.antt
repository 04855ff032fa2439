-- The function is one of a well formed unit, and what names stand for is what they stand for in it.
use Rattle.std.proofs.Common.{◌≡◌, ℕ, sym, ◌∙◌, subst, IfOk}
use Rattle.c0_tree.specs.Tree.{CFunction}
use Rattle.c0_tree.specs.View.{function_view, unit_view}
use Rattle.c0_meaning.specs.Env.{Env}
use Rattle.c0_meaning.specs.Sound.{shapes, IsSizedFunction}
use Rattle.c0_meaning.specs.TypeAt.{env_in}
use Rattle.c0_typed.specs.Sized.{IsSizedBody}
use Rattle.c0_typed.specs.Typed.{typed_in, typed_of_function}
use Rattle.c0_typed.specs.View.{typed_function_view}
use Rattle.c0_typed.proofs.OneFunctionMore.{env_is, found, same_some}
use Rattle.c0_typed.proofs.SizedBodies.{element_of_all}
use Rattle.c0_typed.proofs.function.typed_function.Goals as goal

pub typed_parts-requires-clause-sized : goal.typed_parts-requires-clause-sized
typed_parts-requires-clause-sized c =
    let u = unit_view c.args.unit.now.unit.now in
    let f = function_view c.index-function.result.now in
    let is = found c.args.unit.now.unit.now c.unit.result.now c.args.number c.index-function.result.now c.requires c.unit.ensures.same c.index-function.ensures in
    let all = (c.well_formed_units_are_sized.ensures c.unit.ensures.well_formed.0 u c.unit.ensures.well_formed.1).functions in
    subst (λ (env : Env). IsSizedFunction env.structs f) (sym (env_is c.in_ok-seen.seen c.args.unit.now c.args.number f c.in_ok-seen.ensures.unit c.in_ok-seen.ensures.number is))
    (element_of_all (IsSizedFunction (shapes u)) u.functions c.args.number f all is)

pub typed_parts-requires-clause-objects : goal.typed_parts-requires-clause-objects
typed_parts-requires-clause-objects c =
    let u = unit_view c.args.unit.now.unit.now in
    let f = function_view c.index-function.result.now in
    let is = found c.args.unit.now.unit.now c.unit.result.now c.args.number c.index-function.result.now c.requires c.unit.ensures.same c.index-function.ensures in
    subst (λ (env : Env). IsSizedBody env.structs f.body) (sym (env_is c.in_ok-seen.seen c.args.unit.now c.args.number f c.in_ok-seen.ensures.unit c.in_ok-seen.ensures.number is))
    (c.bodies_are_sized.ensures c.unit.ensures.well_formed.0 u c.unit.ensures.well_formed.1 c.args.number f is)

pub returns : goal.returns
returns c = λ g q.
    let u = unit_view c.args.unit.now.unit.now in
    let f = function_view c.index-function.result.now in
    let is = found c.args.unit.now.unit.now c.unit.result.now c.args.number c.index-function.result.now c.requires c.unit.ensures.same c.index-function.ensures in
    let P : Env → Type 0 = λ env. IfOk c.typed_parts.result (λ x. typed_function_view x ≡ typed_in env c.frame_words-frame.result f) in
    let Q : ℕ → Type 0 = λ n. IfOk c.typed_parts.result (λ x. typed_function_view x ≡ typed_in (env_in u f) n f) in
    let R : CFunction → Type 0 = λ h. IfOk c.typed_parts.result (λ x. typed_function_view x ≡ typed_of_function u h) in
    subst R (same_some f g (sym is ∙ q))
    (subst Q (c.frame_words-frame.ensures f is)
    (subst P (env_is c.in_ok-seen.seen c.args.unit.now c.args.number f c.in_ok-seen.ensures.unit c.in_ok-seen.ensures.number is) c.typed_parts.ensures))
