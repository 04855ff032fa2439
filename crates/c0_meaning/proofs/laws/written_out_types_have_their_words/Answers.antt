use Rattle.c0_meaning.proofs.OpenedTypesHaveWords.{size_is_words}
use Rattle.c0_meaning.proofs.laws.written_out_types_have_their_words.Goals as goal

pub returns : goal.returns
returns c = size_is_words
