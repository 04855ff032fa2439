use Rattle.c0_meaning.proofs.LaterAnswers.{answers_ahead}
use Rattle.c0_meaning.proofs.program_laws.answers_ahead_dont_matter.Goals as goal

pub returns : goal.returns
returns c = answers_ahead
