use Rattle.std.proofs.Common.{◌≡◌, ◌≤◌, ◌++◌, length, map}
use Rattle.c0_tree.specs.View.{decl_view}
use Rattle.c0_parser.specs.Value.{SemanticValue, none, decls}
use Rattle.c0_parser.specs.Grammar.{LINE}
use Rattle.c0_parser.specs.Contract.{as_seen, PieceGoesOn}
use Rattle.c0_parser.proofs.types.more_lines.Given as goal

abbrev pub invariant-loop-here : goal.invariant-loop-here
invariant-loop-here l = (v : SemanticValue) × PieceGoesOn LINE (as_seen l.fn.ts) none (as_seen l.rest) v × (map decl_view l.fn.first.items ++ decls v ≡ map decl_view l.list.items) × (length l.rest ≤ length l.fn.ts)

abbrev pub decreases-loop-here : goal.decreases-loop-here
decreases-loop-here l = length l.rest
