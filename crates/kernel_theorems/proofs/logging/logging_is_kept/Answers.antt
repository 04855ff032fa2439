use Rattle.kernel_theorems.proofs.LoggingIsKept.{logging_is_kept}
use Rattle.kernel_theorems.proofs.logging.logging_is_kept.Goals as goal

pub returns : goal.returns
returns c = logging_is_kept c.runs_are_lawful.ensures
