use Rattle.c0_meaning.proofs.StartValues.{zero_has_words}
use Rattle.c0_meaning.proofs.run_laws.zeros_have_the_words_of_their_types.Goals as goal

pub returns : goal.returns
returns c = zero_has_words
