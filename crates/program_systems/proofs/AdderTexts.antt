-- The texts are those of the trees: each field computes.
use Rattle.std.proofs.Common.{refl, arith}
use Rattle.c0_tokens.specs.Lexis.{mark_cut, word_lexeme}
use Rattle.c0_tokens.specs.Spelling.{reserved_words, marks}
use Rattle.c0_tree.specs.declared.primitive.Program.TheVariants.{User}
use Rattle.kernel_theorems.specs.Text.{IsTextAs}
use Rattle.program_systems.specs.Adders.{adder}
use Rattle.program_systems.specs.AdderTexts.{text_ten, text_twenty, TextsAreAdders}

ten : IsTextAs User 5000 text_ten (adder 10)
unfolding mark_cut word_lexeme reserved_words marks
ten = record { short = omega arith; reads = refl; faultless = refl; is = refl }

twenty : IsTextAs User 5000 text_twenty (adder 20)
unfolding mark_cut word_lexeme reserved_words marks
twenty = record { short = omega arith; reads = refl; faultless = refl; is = refl }

pub texts_are_adders : TextsAreAdders
texts_are_adders = record { ten = ten; twenty = twenty }
