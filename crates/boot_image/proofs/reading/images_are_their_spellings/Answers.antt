use Rattle.boot_image.proofs.SpellingIsAnswered.{read_back}
use Rattle.boot_image.proofs.AnsweredIsSpelling.{answer_spelled}
use Rattle.boot_image.proofs.reading.images_are_their_spellings.Goals as goal

pub returns-clause-spelled : goal.returns-clause-spelled
returns-clause-spelled c = answer_spelled

pub returns-clause-read_back : goal.returns-clause-read_back
returns-clause-read_back c = read_back
