use Rattle.c0_meaning.proofs.AllowedWords.{all_allowed}
use Rattle.c0_meaning.proofs.laws.words_are_allowed_as_tested.Goals as goal

pub returns : goal.returns
returns c = all_allowed
