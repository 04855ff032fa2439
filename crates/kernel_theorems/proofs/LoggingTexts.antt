-- The logging kernel's text is its tree.
use Rattle.std.proofs.Common.{refl, arith}
use Rattle.c0_tokens.specs.Lexis.{mark_cut, word_lexeme}
use Rattle.c0_tokens.specs.Spelling.{reserved_words, marks}
use Rattle.kernel_theorems.specs.Text.{IsTextOf}
use Rattle.kernel_theorems.specs.Logging.{text}
use Rattle.kernel_theorems.specs.LoggingTree.{logging}

pub is_text : IsTextOf 21000 text logging
unfolding mark_cut word_lexeme reserved_words marks
is_text = record { short = omega arith; reads = refl; faultless = refl; is = refl }
