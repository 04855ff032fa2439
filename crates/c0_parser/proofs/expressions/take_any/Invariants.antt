-- The next token is one of the marks left to look at if it is one of all.
use Rattle.std.proofs.Common.{◌≡◌, map, drop}
use Rattle.c0_parser.specs.Sorts.{mark}
use Rattle.c0_parser.specs.Contract.{as_seen}
use Rattle.c0_parser.specs.Levels.{heads_any}
use Rattle.c0_parser.proofs.expressions.take_any.Given as goal

abbrev pub invariant-loop-mark : goal.invariant-loop-mark
invariant-loop-mark l = heads_any (map mark (drop l.mark-index l.marks)) (as_seen l.ts) ≡ heads_any (map mark l.marks) (as_seen l.ts)
