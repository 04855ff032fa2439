use Rattle.c0_tree.specs.View.{unit_view}
use Rattle.c0_unit.proofs.laws.units_have_addresses.Goals as goal

pub returns : goal.returns
returns c = λ table s well first. c.trees_have_addresses.ensures table (unit_view s) well first
