use Rattle.c0_typed.proofs.SizedBodies.{bodies_sized}
use Rattle.c0_typed.proofs.laws.bodies_are_sized.Goals as goal

pub returns : goal.returns
returns c = bodies_sized c.numbers_tell.ensures
