use Rattle.program_systems.proofs.CountedComes.{counts_tell}
use Rattle.program_systems.proofs.counts_tell.Goals as goal

pub returns : goal.returns
returns c = counts_tell
