use Rattle.boot_report.proofs.UsersTell.{words_show}
use Rattle.boot_report.proofs.laws.the_words_show.Goals as goal

pub returns : goal.returns
returns c = words_show
