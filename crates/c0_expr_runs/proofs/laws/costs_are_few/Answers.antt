use Rattle.c0_expr_runs.proofs.CostsWithinNodes.{value_costs, place_costs}
use Rattle.c0_expr_runs.proofs.laws.costs_are_few.Goals as goal

pub returns : goal.returns
returns c = record { value = value_costs; place = place_costs }
