use Rattle.mailing.proofs.EveryStepKeepsIt.{mail_is_printed}
use Rattle.mailing.proofs.mail_is_printed.Goals as goal

pub returns : goal.returns
returns c = mail_is_printed c.runs_are_lawful.ensures c.mail_is_kept.ensures
