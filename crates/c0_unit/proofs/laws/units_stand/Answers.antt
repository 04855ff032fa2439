-- By the parts' addresses.
use Rattle.c0_unit.proofs.PartsStand.{unit_stands}
use Rattle.c0_unit.proofs.laws.units_stand.Goals as goal

pub returns : goal.returns
returns c = λ table u well first p h. unit_stands c.units_are_typed_or_faulty.ensures c.functions_are_short.ensures table u well first c.lengths_are_fixed.ensures c.functions_are_in_range.ensures p h
