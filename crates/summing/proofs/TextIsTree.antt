-- The text is that of the tree: each field computes.
use Rattle.std.proofs.Common.{refl, arith}
use Rattle.c0_tokens.specs.Lexis.{mark_cut, word_lexeme}
use Rattle.c0_tokens.specs.Spelling.{reserved_words, marks}
use Rattle.kernel_theorems.specs.Text.{IsTextOf}
use Rattle.summing.specs.Text.{text}
use Rattle.summing.specs.Tree.{kernel_tree}

pub is_text : IsTextOf 21000 text kernel_tree
unfolding mark_cut word_lexeme reserved_words marks
is_text = record { short = omega arith; reads = refl; faultless = refl; is = refl }
