use Rattle.cvm_words.specs.Bytes.{word}
use Rattle.saved_file.proofs.writing.spell.Goals as goal

pub returns : goal.returns
unfolding word
returns c = c.write_u32_into.ensures
