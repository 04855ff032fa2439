use Rattle.cvm_text.proofs.WholeWordsSpellNumbers.{whole_read, whole_spelled}
use Rattle.cvm_text.proofs.lines.whole_numbers_are_spelled.Goals as goal

pub returns-clause-read : goal.returns-clause-read
returns-clause-read c = whole_read

pub returns-clause-spelled : goal.returns-clause-spelled
returns-clause-spelled c = whole_spelled
