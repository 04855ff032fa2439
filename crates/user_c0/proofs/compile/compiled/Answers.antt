-- A typed unit has few nodes.
use Rattle.std.proofs.Common.{◌≤◌, ◌+◌, ◌*◌, length, arith}
use Rattle.c0_tree.specs.Primitives.{user_primitives}
use Rattle.c0_tree.specs.View.{unit_view}
use Rattle.c0_meaning.specs.Limits.{all_nodes}
use Rattle.user_c0.proofs.compile.compiled.Goals as goal

pub returns-clause-most : goal.returns-clause-most
returns-clause-most c =
    let few : length c.in_ok-code.code.items ≤ 512 + 32 * all_nodes (unit_view c.args.unit.now).functions = c.in_ok-code.ensures.few in
    let nodes : all_nodes (unit_view c.args.unit.now).functions ≤ 100000 = ((c.units_are_typed_or_faulty.ensures user_primitives (unit_view c.args.unit.now)).1 c.unit-unit.ensures.well_formed.typed).nodes in
    omega arith
