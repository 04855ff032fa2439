-- The texts are those of the trees: each field computes.
use Rattle.std.proofs.Common.{refl, arith}
use Rattle.c0_tokens.specs.Lexis.{mark_cut, word_lexeme}
use Rattle.c0_tokens.specs.Spelling.{reserved_words, marks}
use Rattle.c0_tree.specs.declared.primitive.Program.TheVariants.{User}
use Rattle.kernel_theorems.specs.Text.{IsTextAs}
use Rattle.mailing_boots.specs.Mailers.{sender, receiver}
use Rattle.mailing_boots.specs.Texts.{sender_text, receiver_text, TextsAreMailers}

sends : IsTextAs User 9000 sender_text sender
unfolding mark_cut word_lexeme reserved_words marks
sends = record { short = omega arith; reads = refl; faultless = refl; is = refl }

receives : IsTextAs User 9000 receiver_text receiver
unfolding mark_cut word_lexeme reserved_words marks
receives = record { short = omega arith; reads = refl; faultless = refl; is = refl }

pub texts_are_mailers : TextsAreMailers
texts_are_mailers = record { sends = sends; receives = receives }
