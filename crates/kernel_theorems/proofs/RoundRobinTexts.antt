-- The round robin's text is its tree.
use Rattle.std.proofs.Common.{refl, arith}
use Rattle.c0_tokens.specs.Lexis.{mark_cut, word_lexeme}
use Rattle.c0_tokens.specs.Spelling.{reserved_words, marks}
use Rattle.kernel_theorems.specs.Text.{IsTextOf}
use Rattle.kernel_theorems.specs.RoundRobin.{round_robin}
use Rattle.kernel_theorems.specs.RoundRobinText.{text}

pub is_text : IsTextOf 9000 text (round_robin 3)
unfolding mark_cut word_lexeme reserved_words marks
is_text = record { short = omega arith; reads = refl; faultless = refl; is = refl }
