use Rattle.boot_image.proofs.PiecesSpellImages.{pieces_spell}
use Rattle.boot_image.proofs.TwoReadings.{answer_only}
use Rattle.boot_image.proofs.AnswersAreSo.{answer_so}
use Rattle.boot_image.proofs.reading.bytes_have_one_answer.Goals as goal

pub returns-clause-pieces : goal.returns-clause-pieces
returns-clause-pieces c = pieces_spell

pub returns-clause-so : goal.returns-clause-so
returns-clause-so c = answer_so

pub returns-clause-only : goal.returns-clause-only
returns-clause-only c = answer_only
