use Rattle.boot_report.proofs.GlobalInThreeParts.{globals_tell}
use Rattle.boot_report.proofs.laws.a_global_tells.Goals as goal

pub returns : goal.returns
returns c = globals_tell
