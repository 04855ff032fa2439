use Rattle.c0_meaning.proofs.StepsTakeUnits.{calls_extend}
use Rattle.c0_meaning.proofs.run_laws.more_units_extend_the_calls.Goals as goal

pub returns : goal.returns
returns g c = calls_extend _ _
