use Rattle.c0_meaning.proofs.StructWords.{words_are_those}
use Rattle.c0_meaning.proofs.laws.words_are_those_of_the_parts.Goals as goal

pub returns : goal.returns
returns c = words_are_those
