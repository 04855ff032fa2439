use Rattle.mips_asm.specs.Assembled.{assembled}
use Rattle.sample_maker.specs.Program.{program_text, sample_words}
use Rattle.sample_maker.proofs.OnePieceMore.{one_answer}
use Rattle.sample_maker.proofs.program.words_in.Goals as goal

pub returns-in-Ok : goal.returns-in-Ok
unfolding program_text
returns-in-Ok c = one_answer (assembled program_text) c.in-Ok.words.items sample_words c.in-Ok.ensures.ok c.program_is_assembled.ensures
