use Rattle.saved_file.proofs.AllTestsPass.{resumable, resumables}
use Rattle.saved_file.proofs.reading.resumable_words_are_answered.Goals as goal

pub returns-clause-resumable : goal.returns-clause-resumable
returns-clause-resumable c = resumable

pub returns-clause-answered : goal.returns-clause-answered
returns-clause-answered c = resumables
