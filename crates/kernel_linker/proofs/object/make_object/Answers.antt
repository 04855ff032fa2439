use Rattle.std.proofs.Common.{◌≤◌, arith}
use Rattle.c0_tree.specs.Primitives.{kernel_primitives}
use Rattle.c0_tree.specs.View.{unit_view}
use Rattle.c0_meaning.specs.Limits.{all_nodes}
use Rattle.kernel_linker.proofs.JoinedObjects.{joined}
use Rattle.kernel_linker.proofs.object.make_object.Goals as goal

pub returns-clause-object : goal.returns-clause-object
returns-clause-object c = joined _ _ _ (unit_view c.args.unit.now) c.in_ok-source.ensures.items c.in_ok-words.ensures.words

-- a checked unit has at most 100,000 nodes
pub returns-clause-few : goal.returns-clause-few
returns-clause-few c =
    let u = unit_view c.args.unit.now in
    let typed = (c.units_are_typed_or_faulty.ensures kernel_primitives u).1 c.unit-unit.ensures.well_formed.typed in
    let nodes : all_nodes u.functions ≤ 100000 = typed.nodes in
    omega (arith, nodes, c.in_ok-words.ensures.few)
