use Rattle.std.proofs.Common.{◌≤◌, ◌+◌, ◌*◌, length, arith}
use Rattle.c0_meaning.specs.Limits.{all_nodes}
use Rattle.c0_tree.specs.View.{unit_view}
use Rattle.kernel_linker.proofs.UserLists.{few_nodes}
use Rattle.kernel_linker.proofs.linked.compiled.Goals as goal

pub returns-clause-most : goal.returns-clause-most
returns-clause-most c =
    let few : length c.in_ok-code.code.items ≤ 512 + 32 * all_nodes (unit_view c.args.unit.now).functions = c.in_ok-code.ensures.few in
    let nodes : all_nodes (unit_view c.args.unit.now).functions ≤ 100000 = few_nodes c.units_are_typed_or_faulty.ensures _ _ c.unit-unit.ensures.well_formed in
    omega arith
