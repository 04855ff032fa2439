-- The law is the lemma on texts.
use Rattle.cvm_text.proofs.SpelledIsDecimal.{number_at-decimal}
use Rattle.cvm_text.proofs.read.spelled_numbers_are_read.Goals as goal

pub returns : goal.returns
returns c = number_at-decimal
