use Rattle.program_systems.proofs.AdderCounts.{adders_are_counted}
use Rattle.program_systems.proofs.adders_are_counted.Goals as goal

pub returns : goal.returns
returns c = adders_are_counted c.counts_tell.ensures
