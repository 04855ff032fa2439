-- A number is a run of digits at the front of the text.
use Rattle.std.proofs.Common.{arith}
use Rattle.std.proofs.lemmas.List.Sums.{prefix_len-le-length}
use Rattle.c0_tokens.specs.Lexis.{is_digit}
use Rattle.c0_tokens.proofs.BlanksAndDigits.{run_passes}
use Rattle.c0_tokens.proofs.lexer.number_cut.Goals as goal

pub split_at-requires : goal.split_at-requires
split_at-requires c = omega (arith, prefix_len-le-length is_digit c.args.text.now, c.digits_len.ensures)

pub number_lexeme-requires-clause-digits : goal.number_lexeme-requires-clause-digits
number_lexeme-requires-clause-digits c = run_passes is_digit c.args.text.now c.split_at.result.0.now c.digits_len.result c.split_at.ensures.front c.digits_len.ensures
