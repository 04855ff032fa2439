-- The guarded kernel's text is its tree.
use Rattle.std.proofs.Common.{refl, arith}
use Rattle.c0_tokens.specs.Lexis.{mark_cut, word_lexeme}
use Rattle.c0_tokens.specs.Spelling.{reserved_words, marks}
use Rattle.kernel_theorems.specs.Text.{IsTextOf}
use Rattle.kernel_theorems.specs.Guarded.{text}
use Rattle.kernel_theorems.specs.GuardedTree.{guarded}

pub is_text : IsTextOf 20000 text guarded
unfolding mark_cut word_lexeme reserved_words marks
is_text = record { short = omega arith; reads = refl; faultless = refl; is = refl }
