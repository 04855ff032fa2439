-- The law is the lemma on texts.
use Rattle.cvm_text.proofs.ReadIsSpelled.{spelled-number_at}
use Rattle.cvm_text.proofs.read.read_numbers_are_spelled.Goals as goal

pub returns : goal.returns
returns c = spelled-number_at
