-- By the words of each function.
use Rattle.std.proofs.Common.{arith}
use Rattle.c0_unit.proofs.UnitAddresses.{words_few}
use Rattle.c0_unit.proofs.laws.units_are_short.Goals as goal

pub returns : goal.returns
returns c = λ u. let few = words_few c.functions_are_short.ensures u u.functions in omega (arith, few)
