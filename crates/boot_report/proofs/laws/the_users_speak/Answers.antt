use Rattle.boot_report.proofs.UsersTell.{users_speak}
use Rattle.boot_report.proofs.laws.the_users_speak.Goals as goal

pub returns : goal.returns
returns c = users_speak
