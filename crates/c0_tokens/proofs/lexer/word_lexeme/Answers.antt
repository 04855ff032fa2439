-- A word that is in the table is reserved.
use Rattle.std.proofs.Common.{◌∙◌, ap, sym, refl}
use Rattle.std.specs.Prelude.{option_map}
use Rattle.c0_tokens.specs.Lexis.{word_lexeme}
use Rattle.c0_tokens.specs.View.{spelling_view}
use Rattle.c0_tokens.proofs.lexer.word_lexeme.Goals as goal

pub returns-in-Some : goal.returns-in-Some
unfolding word_lexeme
returns-in-Some c = rw (sym c.reserved.ensures ∙ ap (option_map spelling_view) c.in-Some.is) refl

pub returns-in-None : goal.returns-in-None
unfolding word_lexeme
returns-in-None c = rw (sym c.reserved.ensures ∙ ap (option_map spelling_view) c.in-None.is) refl
