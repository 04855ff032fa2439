use Rattle.std.proofs.Common.{◌≤◌, length}
use Rattle.c0_parser.specs.Value.{SemanticValue, none}
use Rattle.c0_parser.specs.Factored.{FACTORED}
use Rattle.c0_parser.specs.Contract.{as_seen, PieceGoesOn}
use Rattle.c0_parser.specs.ToEnd.{AreItems}
use Rattle.c0_parser.proofs.source.all_items.Given as goal

abbrev pub invariant-loop-here : goal.invariant-loop-here
invariant-loop-here l = (v : SemanticValue) × PieceGoesOn FACTORED (as_seen l.fn.ts) none (as_seen l.rest) v × AreItems l.all v × (length l.rest ≤ length l.fn.ts)

abbrev pub decreases-loop-here : goal.decreases-loop-here
decreases-loop-here l = length l.rest
