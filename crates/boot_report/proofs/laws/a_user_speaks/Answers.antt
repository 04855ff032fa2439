use Rattle.boot_report.proofs.UsersTell.{user_speaks}
use Rattle.boot_report.proofs.laws.a_user_speaks.Goals as goal

pub returns : goal.returns
returns c = user_speaks
