use Rattle.kernel_theorems.proofs.GuardedNeverFaults.{guarded_never_faults}
use Rattle.kernel_theorems.proofs.guarded.guarded_never_faults.Goals as goal

pub returns : goal.returns
returns c = guarded_never_faults c.steps_tell.ensures c.runs_are_lawful.ensures
