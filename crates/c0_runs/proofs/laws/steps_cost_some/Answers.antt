-- By cases on what is left to do.
use Rattle.c0_runs.proofs.StepCosts.{costs_some}
use Rattle.c0_runs.proofs.laws.steps_cost_some.Goals as goal

pub returns : goal.returns
returns g c = λ fixed z. costs_some g.M.Surroundings.Standing g.M.Surroundings.Entry (g.M.Surroundings.outer fixed) z
