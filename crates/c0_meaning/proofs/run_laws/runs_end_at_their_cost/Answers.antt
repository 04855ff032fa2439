use Rattle.c0_meaning.proofs.StepsTakeUnits.{ends_at_its_cost}
use Rattle.c0_meaning.proofs.run_laws.runs_end_at_their_cost.Goals as goal

pub returns : goal.returns
returns g c = ends_at_its_cost _ _
