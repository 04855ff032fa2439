-- By the laws that the body calls.
use Rattle.c0_runtime.proofs.RoutinesCompute.{divides}
use Rattle.c0_runtime.proofs.laws.quotients_are_computed.Goals as goal

pub returns : goal.returns
returns c w f = divides w f c.runs_compose.ensures (c.straight_code_runs.ensures w f) (c.jumps_lead.ensures w f)
