use Rattle.mailing_boots.proofs.MailersCall.{mailers_call}
use Rattle.mailing_boots.proofs.mailers_call.Goals as goal

pub returns : goal.returns
returns c = mailers_call
