use Rattle.mailing_boots.proofs.CountedCalls.{counts_tell_through}
use Rattle.mailing_boots.proofs.counts_tell_through.Goals as goal

pub returns : goal.returns
returns c = counts_tell_through c.counts_tell.ensures
