use Rattle.boot_report.proofs.GlobalsGiven.{global_rows_tell}
use Rattle.boot_report.proofs.laws.the_globals_tell.Goals as goal

pub returns : goal.returns
returns c = global_rows_tell c.a_global_tells.ensures c.words_are_those_of_the_parts.ensures
