-- By the effect of each instruction.
use Rattle.mips_table.proofs.StepsKeepWords.{keeps_words}
use Rattle.mips_table.proofs.runs.a_processor_keeps_words.Goals as goal

pub returns : goal.returns
returns c = keeps_words
