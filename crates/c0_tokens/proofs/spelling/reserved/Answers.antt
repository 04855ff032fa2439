-- The spelling found in the code's table is the one in the definition's.
use Rattle.std.proofs.Common.{◌∙◌, ap, bytes_eq, find}
use Rattle.std.specs.Prelude.{option_map}
use Rattle.c0_tokens.specs.View.{spelling_view}
use Rattle.c0_tokens.proofs.SpellingFound.{find_viewed}
use Rattle.c0_tokens.proofs.spelling.reserved.Goals as goal

pub returns : goal.returns
returns c =
    ap (option_map spelling_view) c.first_word.ensures
    ∙ find_viewed spelling_view (λ s. bytes_eq s.0 c.args.word.now) c.words.result
    ∙ ap (find (λ s. bytes_eq s.0 c.args.word.now)) c.words.ensures
