use Rattle.std.proofs.Common.{◌≡◌, ◌≤◌, length}
use Rattle.c0_parser.specs.Value.{SemanticValue, none, type_suffixes}
use Rattle.c0_parser.specs.Grammar.{SUFFIX}
use Rattle.c0_parser.specs.Contract.{as_seen, PieceGoesOn}
use Rattle.c0_parser.specs.Views.{typed}
use Rattle.c0_parser.proofs.types.suffixes.Given as goal

abbrev pub invariant-loop-here : goal.invariant-loop-here
invariant-loop-here l = (v : SemanticValue) × PieceGoesOn SUFFIX (as_seen l.fn.ts) none (as_seen l.rest) v × (type_suffixes (typed l.fn.base) v ≡ typed l.ty) × (length l.rest ≤ length l.fn.ts)

abbrev pub decreases-loop-here : goal.decreases-loop-here
decreases-loop-here l = length l.rest
