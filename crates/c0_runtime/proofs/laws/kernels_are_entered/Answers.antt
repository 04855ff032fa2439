-- By the law that the body calls.
use Rattle.c0_runtime.proofs.KernelEntry.{entry_runs}
use Rattle.c0_runtime.proofs.laws.kernels_are_entered.Goals as goal

pub returns : goal.returns
returns c w f = entry_runs w (c.straight_code_runs.ensures w f)
