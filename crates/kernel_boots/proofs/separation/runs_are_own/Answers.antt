use Rattle.kernel_boots.proofs.OwnRuns.{runs_are_own}
use Rattle.kernel_boots.proofs.separation.runs_are_own.Goals as goal

pub returns : goal.returns
returns c = runs_are_own c.users_are_isolated.ensures
