-- By the laws that the body calls.
use Rattle.c0_runtime.proofs.RoutinesCompute.{multiplies}
use Rattle.c0_runtime.proofs.laws.products_are_computed.Goals as goal

pub returns : goal.returns
returns c w f = multiplies w f c.runs_compose.ensures (c.straight_code_runs.ensures w f) (c.jumps_lead.ensures w f)
