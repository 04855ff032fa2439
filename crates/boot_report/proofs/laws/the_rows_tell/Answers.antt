use Rattle.boot_report.proofs.UsersTell.{rows_tell}
use Rattle.boot_report.proofs.laws.the_rows_tell.Goals as goal

pub returns : goal.returns
returns c = rows_tell
