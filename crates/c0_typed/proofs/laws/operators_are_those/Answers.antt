use Rattle.c0_typed.proofs.NumbersAreOfValues.{operators_those}
use Rattle.c0_typed.proofs.laws.operators_are_those.Goals as goal

pub returns : goal.returns
returns c = operators_those
