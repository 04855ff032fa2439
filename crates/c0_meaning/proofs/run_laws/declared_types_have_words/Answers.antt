use Rattle.c0_meaning.proofs.TypesHaveWords.{types_have_words}
use Rattle.c0_meaning.proofs.run_laws.declared_types_have_words.Goals as goal

pub returns : goal.returns
returns c = types_have_words
