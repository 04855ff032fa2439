-- A mark that is in the table stands at the front, so it is no longer than the text.
use Rattle.std.proofs.Common.{◌∙◌, ◌==◌, ap, sym, refl}
use Rattle.std.specs.Prelude.{option_map}
use Rattle.std.specs.List.{starts_with}
use Rattle.c0_tokens.specs.Spelling.{marks}
use Rattle.c0_tokens.specs.Lexis.{mark_cut}
use Rattle.c0_tokens.specs.View.{spelling_view}
use Rattle.c0_tokens.proofs.SpellingFound.{find_passes, front_within}
use Rattle.c0_tokens.proofs.lexer.mark_cut.Goals as goal

pub after-requires : goal.after-requires
after-requires c =
    front_within c.args.text.now c.in-Some.spelling.text.now
    (find_passes (λ s. starts_with (λ a b. a == b) c.args.text.now s.0) marks (spelling_view c.in-Some.spelling) (sym c.front_mark.ensures ∙ ap (option_map spelling_view) c.in-Some.is))

pub returns-in-Some : goal.returns-in-Some
unfolding mark_cut
returns-in-Some c = rw (sym c.front_mark.ensures ∙ ap (option_map spelling_view) c.in-Some.is, c.after.ensures) refl

pub returns-in-None : goal.returns-in-None
unfolding mark_cut
returns-in-None c = rw (sym c.front_mark.ensures ∙ ap (option_map spelling_view) c.in-None.is, c.after-in-None.ensures) refl
