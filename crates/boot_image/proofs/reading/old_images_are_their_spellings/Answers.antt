use Rattle.boot_image.proofs.SpellingIsAnswered.{old_read_back}
use Rattle.boot_image.proofs.AnsweredIsSpelling.{old_answer_spelled}
use Rattle.boot_image.proofs.reading.old_images_are_their_spellings.Goals as goal

pub returns-clause-spelled : goal.returns-clause-spelled
returns-clause-spelled c = old_answer_spelled

pub returns-clause-read_back : goal.returns-clause-read_back
returns-clause-read_back c = old_read_back
