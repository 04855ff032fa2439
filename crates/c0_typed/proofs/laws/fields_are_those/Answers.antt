use Rattle.c0_typed.proofs.NumbersAreOfValues.{fields_those}
use Rattle.c0_typed.proofs.laws.fields_are_those.Goals as goal

pub returns : goal.returns
returns c = fields_those c.offsets_are_those.ensures
