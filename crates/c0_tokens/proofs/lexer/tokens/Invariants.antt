-- The tokens so far, and the tokens of what is left, are the tokens of the source. A depth is within the bytes that were read.
use Rattle.std.proofs.Common.{◌≡◌, ◌+◌, ◌≤◌, ◌++◌, length, map}
use Rattle.c0_tokens.specs.Nesting.{tokens_of}
use Rattle.c0_tokens.specs.Tokens.{token_view}
use Rattle.c0_tokens.specs.View.{depth_view}
use Rattle.c0_tokens.proofs.NextTokens.{left}
use Rattle.c0_tokens.proofs.lexer.tokens.Given as goal

abbrev pub invariant-loop-tokens : goal.invariant-loop-tokens
invariant-loop-tokens l = record {
  brackets : l.depth.brackets + length l.rest ≤ length l.source;
  run : l.depth.run + length l.rest ≤ length l.source;
  whole : map token_view l.tokens.items ++ left (length l.source) (depth_view l.depth) l.after_asm l.rest ≡ tokens_of l.source;
}

abbrev pub decreases-loop-tokens : goal.decreases-loop-tokens
decreases-loop-tokens l = length l.rest
