use Rattle.object_file.proofs.AnswersAreUnique.{one_answer}
use Rattle.object_file.proofs.EveryAnswer.{some_answer}
use Rattle.object_file.proofs.reading.bytes_have_one_answer.Goals as goal

pub returns-clause-some : goal.returns-clause-some
returns-clause-some c = some_answer

pub returns-clause-one : goal.returns-clause-one
returns-clause-one c = one_answer
