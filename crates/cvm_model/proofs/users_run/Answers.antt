-- By who is next.
use Rattle.cvm_model.proofs.RunningUsers.{users_run}
use Rattle.cvm_model.proofs.users_run.Goals as goal

pub returns : goal.returns
returns c = users_run
