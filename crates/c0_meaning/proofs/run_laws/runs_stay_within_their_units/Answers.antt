use Rattle.c0_meaning.proofs.StepsTakeUnits.{stays_within}
use Rattle.c0_meaning.proofs.run_laws.runs_stay_within_their_units.Goals as goal

pub returns : goal.returns
returns g c = stays_within _ _
