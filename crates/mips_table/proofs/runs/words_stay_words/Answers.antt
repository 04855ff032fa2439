-- By induction on the number of steps.
use Rattle.mips_table.proofs.StepsKeepWords.{run_fits}
use Rattle.mips_table.proofs.runs.words_stay_words.Goals as goal

pub returns : goal.returns
returns c = run_fits
