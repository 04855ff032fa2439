-- The text is that of the tree: each field computes.
use Rattle.std.proofs.Common.{refl, arith}
use Rattle.c0_tokens.specs.Lexis.{mark_cut, word_lexeme}
use Rattle.c0_tokens.specs.Spelling.{reserved_words, marks}
use Rattle.c0_tree.specs.declared.primitive.Program.TheVariants.{User}
use Rattle.kernel_theorems.specs.Text.{IsTextAs}
use Rattle.user_c0.specs.Summing.{summing}
use Rattle.program_theorems.specs.SummingText.{text}

pub is_text : IsTextAs User 5000 text summing
unfolding mark_cut word_lexeme reserved_words marks
is_text = record { short = omega arith; reads = refl; faultless = refl; is = refl }
