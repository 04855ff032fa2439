use Rattle.system_files.proofs.ReadIsSpelled.{spelled}
use Rattle.system_files.proofs.SpelledIsRead.{read}
use Rattle.system_files.proofs.params.parameters_are_their_spellings.Goals as goal

pub returns-clause-spelled : goal.returns-clause-spelled
returns-clause-spelled c = spelled c.whole_numbers_are_spelled.ensures.spelled

pub returns-clause-read : goal.returns-clause-read
returns-clause-read c = read c.whole_numbers_are_spelled.ensures.read
