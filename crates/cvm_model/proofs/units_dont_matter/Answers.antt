-- Units don't matter.
use Rattle.cvm_model.proofs.ReplayedInParts.{units_dont_matter}
use Rattle.cvm_model.proofs.units_dont_matter.Goals as goal

pub returns : goal.returns
returns c = units_dont_matter
