-- The spelling found in the code's table is the one in the definition's.
use Rattle.std.proofs.Common.{◌∙◌, ◌==◌, ap, find}
use Rattle.std.specs.Prelude.{option_map}
use Rattle.std.specs.List.{starts_with}
use Rattle.c0_tokens.specs.View.{spelling_view}
use Rattle.c0_tokens.proofs.SpellingFound.{find_viewed}
use Rattle.c0_tokens.proofs.spelling.front_mark.Goals as goal

pub returns : goal.returns
returns c =
    ap (option_map spelling_view) c.first_front.ensures
    ∙ find_viewed spelling_view (λ s. starts_with (λ a b. a == b) c.args.text.now s.0) c.marks.result
    ∙ ap (find (λ s. starts_with (λ a b. a == b) c.args.text.now s.0)) c.marks.ensures
