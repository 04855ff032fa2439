use Rattle.mailing_boots.proofs.AnyProgramsMail.{any_programs_mail}
use Rattle.mailing_boots.proofs.any_programs_mail.Goals as goal

pub returns : goal.returns
returns c = any_programs_mail c.programs_come_through.ensures c.any_users_mail.ensures
