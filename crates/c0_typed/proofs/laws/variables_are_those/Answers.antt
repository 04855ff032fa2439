use Rattle.c0_typed.proofs.NumbersAreOfValues.{variables_those}
use Rattle.c0_typed.proofs.laws.variables_are_those.Goals as goal

pub returns : goal.returns
returns c = variables_those c.offsets_are_those.ensures
