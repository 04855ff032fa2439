use Rattle.kernel_linker.proofs.MigrateSteps.{words_ignored}
use Rattle.kernel_linker.proofs.laws.old_words_are_ignored.Goals as goal

pub returns : goal.returns
returns c = words_ignored
