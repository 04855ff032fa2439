use Rattle.mailing_boots.proofs.ComesThrough.{programs_come_through}
use Rattle.mailing_boots.proofs.programs_come_through.Goals as goal

pub returns : goal.returns
returns c = programs_come_through c.users_go_on.ensures c.calls_come.ensures c.ends_come.ensures c.ints_are_told.ensures c.answers_ahead_dont_matter.ensures
