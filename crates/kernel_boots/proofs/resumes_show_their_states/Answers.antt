use Rattle.kernel_boots.proofs.StatesPrinted.{resumes_stand}
use Rattle.kernel_boots.proofs.resumes_show_their_states.Goals as goal

pub returns : goal.returns
returns c = resumes_stand c.runs_are_lawful.ensures
