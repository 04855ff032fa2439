-- What was read so far, and a measure of what is left: the tokens, and how far the functions that read them are nested.
use Rattle.std.proofs.Common.{◌≡◌, ◌+◌, ◌-◌, ◌*◌, length, true}
use Rattle.c0_parser.specs.Levels.{level_place, chains}
use Rattle.c0_parser.proofs.PartsOfExpressions.{ChainSoFar, SuffixesSoFar}
use Rattle.c0_parser.proofs.expressions.+exprs.Given as goal

abbrev pub decreases-binary : goal.decreases-binary
decreases-binary l = 20 * length l.ts.now + (17 - 2 * level_place l.level)

abbrev pub decreases-comparison : goal.decreases-comparison
decreases-comparison l = 20 * length l.ts.now + 19

abbrev pub decreases-operand : goal.decreases-operand
decreases-operand l = 20 * length l.ts.now + (16 - 2 * level_place l.level)

abbrev pub decreases-postfix : goal.decreases-postfix
decreases-postfix l = 20 * length l.ts.now + 3

abbrev pub decreases-primary : goal.decreases-primary
decreases-primary l = 20 * length l.ts.now + 2

abbrev pub decreases-suffix : goal.decreases-suffix
decreases-suffix l = 20 * length l.ts.now + 1

abbrev pub decreases-unary : goal.decreases-unary
decreases-unary l = 20 * length l.ts.now + 4

abbrev pub invariant-binary-loop-sign : goal.invariant-binary-loop-sign
invariant-binary-loop-sign l = record {
  chain : ChainSoFar l.level l.ts l.left l.rest;
  follow : chains l.level ≡ true;
}

abbrev pub decreases-binary-loop-sign : goal.decreases-binary-loop-sign
decreases-binary-loop-sign l = length l.rest

abbrev pub invariant-postfix-loop-alloc : goal.invariant-postfix-loop-alloc
invariant-postfix-loop-alloc l = SuffixesSoFar l.ts l.left l.rest

abbrev pub decreases-postfix-loop-alloc : goal.decreases-postfix-loop-alloc
decreases-postfix-loop-alloc l = length l.rest
