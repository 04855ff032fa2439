use Rattle.c0_meaning.proofs.StepsTakeUnits.{steps_are_enough}
use Rattle.c0_meaning.proofs.run_laws.steps_are_enough.Goals as goal

pub returns : goal.returns
returns g c = steps_are_enough _ _
