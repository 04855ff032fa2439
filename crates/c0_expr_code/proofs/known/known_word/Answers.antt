use Rattle.std.proofs.Common.{◌∙◌}
use Rattle.c0_expr_code.proofs.OutermostPart.{word_is}
use Rattle.c0_expr_code.proofs.known.known_word.Goals as goal

pub returns : goal.returns
returns c = λ st. c.word_of.ensures ∙ word_is st _
