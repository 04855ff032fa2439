-- A word is a run at the front of the text.
use Rattle.std.proofs.Common.{arith}
use Rattle.std.proofs.lemmas.List.Sums.{prefix_len-le-length}
use Rattle.c0_tokens.specs.Lexis.{is_word_byte}
use Rattle.c0_tokens.proofs.lexer.word_cut.Goals as goal

pub split_at-requires : goal.split_at-requires
split_at-requires c = omega (arith, prefix_len-le-length is_word_byte c.args.text.now, c.word_len.ensures)
