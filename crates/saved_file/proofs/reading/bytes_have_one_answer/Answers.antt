use Rattle.saved_file.proofs.BytesAsWords.{answer_so, answer_only}
use Rattle.saved_file.proofs.reading.bytes_have_one_answer.Goals as goal

pub returns-clause-so : goal.returns-clause-so
returns-clause-so c = answer_so

pub returns-clause-only : goal.returns-clause-only
returns-clause-only c = answer_only
