use Rattle.boot_report.proofs.UsersTell.{user_tells}
use Rattle.boot_report.proofs.laws.a_user_is_told.Goals as goal

pub returns : goal.returns
returns c = user_tells
