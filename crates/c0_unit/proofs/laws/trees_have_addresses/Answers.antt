-- The addresses are numbers, and a vector of numbers is there for each list that isn't longer than one may be.
use Rattle.c0_unit.proofs.PartsStand.{tree_places}
use Rattle.c0_unit.proofs.laws.trees_have_addresses.Goals as goal

pub returns : goal.returns
returns c = tree_places c.units_are_typed_or_faulty.ensures c.functions_are_short.ensures
