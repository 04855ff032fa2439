use Rattle.c0_meaning.proofs.WellTypedUnits.{units_are_faultless}
use Rattle.c0_meaning.proofs.laws.units_are_typed_or_faulty.Goals as goal

pub returns : goal.returns
returns c = units_are_faultless
