-- By the laws that the body calls.
use Rattle.cvm_primitives.proofs.MemoryCalls.{words, stores, copies, resizes}
use Rattle.cvm_primitives.proofs.laws.memory_answers.Goals as goal

pub returns : goal.returns
returns k w f = λ p b most users c d e.
    let r = k.routines_have_laws.ensures w f in record {
      word = words w f r p b most users c d e k.a_word_is_read.ensures;
      put = stores w f r p b most users c d e k.a_word_is_put.ensures;
      copy = copies w f r p b most users c d e k.words_are_copied.ensures;
      resize = resizes w f r p b most users c d e k.a_memory_is_resized.ensures;
    }
