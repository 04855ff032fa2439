use Rattle.c0_meaning.proofs.StepsTakeUnits.{primitives_alone}
use Rattle.c0_meaning.proofs.run_laws.primitives_alone_change_the_world.Goals as goal

pub returns : goal.returns
returns g c = primitives_alone _ _
