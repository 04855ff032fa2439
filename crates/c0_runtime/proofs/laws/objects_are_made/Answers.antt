-- By the laws that the body calls.
use Rattle.c0_runtime.proofs.NewRoutineEnds.{new_runs}
use Rattle.c0_runtime.proofs.laws.objects_are_made.Goals as goal

pub returns : goal.returns
returns c w f = new_runs w f c.code_runs_join.ensures c.runs_compose.ensures (c.straight_code_runs.ensures w f) (c.jumps_lead.ensures w f)
