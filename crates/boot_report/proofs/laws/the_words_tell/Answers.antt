use Rattle.boot_report.proofs.UsersTell.{words_tell}
use Rattle.boot_report.proofs.laws.the_words_tell.Goals as goal

pub returns : goal.returns
returns c = words_tell
