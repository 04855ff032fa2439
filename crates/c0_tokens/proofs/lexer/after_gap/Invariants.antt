-- What stands after the gap stays the same, and what is left to look at gets shorter.
use Rattle.std.proofs.Common.{◌≡◌, length, drop}
use Rattle.c0_tokens.specs.Lexis.{gap}
use Rattle.c0_tokens.proofs.lexer.after_gap.Given as goal

abbrev pub invariant-loop-rest : goal.invariant-loop-rest
invariant-loop-rest l = drop (gap l.rest) l.rest ≡ drop (gap l.text) l.text

abbrev pub decreases-loop-rest : goal.decreases-loop-rest
decreases-loop-rest l = length l.rest
