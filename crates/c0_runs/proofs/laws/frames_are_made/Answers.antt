-- By the parts of the frame, one behind the other.
use Rattle.c0_runs.proofs.WholeBegin.{frames_made}
use Rattle.c0_runs.proofs.laws.frames_are_made.Goals as goal

pub returns : goal.returns
returns c = λ w sound. frames_made c.runs_compose.ensures w sound (c.straight_code_runs.ensures w sound) (c.jumps_lead.ensures w sound) c.code_runs_join.ensures
