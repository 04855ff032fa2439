use Rattle.c0_meaning.proofs.WellFormed.{units_are_sized}
use Rattle.c0_meaning.proofs.laws.well_formed_units_are_sized.Goals as goal

pub returns : goal.returns
returns c = units_are_sized
