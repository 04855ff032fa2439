-- The bytes are the spelling of an image that a file may be, so they are read as that image.
use Rattle.std.proofs.Common.{rules, ap, ◌∙◌, arith}
use Rattle.std.proofs.lemmas.Grind.{common_steps}
use Rattle.boot_image.specs.Reading.{answer, old_answer}
use Rattle.boot_image.proofs.SpellingIsAnswered.{read_back, old_read_back, old_refused}
use Rattle.boot_image.proofs.writing.write.Goals as goal

pub returns-clause-spelled : goal.returns-clause-spelled
returns-clause-spelled c = grind (arith, common_steps)

pub returns-clause-in_range : goal.returns-clause-in_range
returns-clause-in_range c = search rules

pub returns-clause-read_back : goal.returns-clause-read_back
returns-clause-read_back c = λ fits. ap answer (returns-clause-spelled c) ∙ read_back c.args.image.now (returns-clause-in_range c fits)

pub returns-clause-old_in_range : goal.returns-clause-old_in_range
returns-clause-old_in_range c = search rules

pub returns-clause-read_old_back : goal.returns-clause-read_old_back
returns-clause-read_old_back c = λ fits. ap old_answer (returns-clause-spelled c) ∙ old_read_back c.args.image.now (returns-clause-old_in_range c fits)

pub returns-clause-old_refused : goal.returns-clause-old_refused
returns-clause-old_refused c = λ fits. ap answer (returns-clause-spelled c) ∙ old_refused c.args.image.now fits
