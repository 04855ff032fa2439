use Rattle.mailing.proofs.MailEnds.{mail_ends}
use Rattle.mailing.proofs.mail_ends.Goals as goal

pub returns : goal.returns
returns c = mail_ends
