-- A comment is skipped to the end of its line.
use Rattle.std.proofs.Common.{◌∙◌, sym, arith}
use Rattle.std.proofs.lemmas.List.Sums.{prefix_len-le-length}
use Rattle.c0_tokens.proofs.BlanksAndDigits.{in_line, comment_front}
use Rattle.c0_tokens.proofs.lexer.blank_len.Goals as goal

pub returns-then-starts_with-clause-within : goal.returns-then-starts_with-clause-within
returns-then-starts_with-clause-within c = omega (arith, prefix_len-le-length in_line c.args.text.now, c.line_len.ensures)

pub returns-then-starts_with-clause-more : goal.returns-then-starts_with-clause-more
returns-then-starts_with-clause-more c =
    rw c.line_len.ensures (comment_front c.args.text.now (sym c.starts_with.ensures.value ∙ c.if-starts_with.true))
