-- By the laws that the body calls.
use Rattle.trap_entry.proofs.DispatchAnswered.{exiting}
use Rattle.trap_entry.proofs.laws.an_exit_comes.Goals as goal

pub returns : goal.returns
returns c w f = exiting w f c.runs_compose.ensures
