use Rattle.mailing_boots.proofs.CountedCalls.{mailers_are_counted}
use Rattle.mailing_boots.proofs.mailers_are_counted.Goals as goal

pub returns : goal.returns
returns c = mailers_are_counted c.counts_tell.ensures
