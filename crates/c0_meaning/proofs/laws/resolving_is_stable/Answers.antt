use Rattle.c0_meaning.proofs.StableUnits.{resolving_is_stable}
use Rattle.c0_meaning.proofs.laws.resolving_is_stable.Goals as goal

pub returns : goal.returns
returns c = resolving_is_stable
