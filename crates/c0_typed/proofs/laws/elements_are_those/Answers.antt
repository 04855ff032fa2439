use Rattle.c0_typed.proofs.NumbersAreOfValues.{elements_those}
use Rattle.c0_typed.proofs.laws.elements_are_those.Goals as goal

pub returns : goal.returns
returns c = elements_those
