use Rattle.mailing.proofs.EveryStepKeepsIt.{mail_is_kept}
use Rattle.mailing.proofs.mail_is_kept.Goals as goal

pub returns : goal.returns
returns c = mail_is_kept
