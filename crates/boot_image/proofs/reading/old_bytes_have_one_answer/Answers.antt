use Rattle.boot_image.proofs.TwoReadings.{old_answer_only}
use Rattle.boot_image.proofs.AnswersAreSo.{old_answer_so}
use Rattle.boot_image.proofs.reading.old_bytes_have_one_answer.Goals as goal

pub returns-clause-so : goal.returns-clause-so
returns-clause-so c = old_answer_so

pub returns-clause-only : goal.returns-clause-only
returns-clause-only c = old_answer_only
