use Rattle.std.proofs.Common.{◌≡◌, ◌≤◌, ◌++◌, length, map}
use Rattle.c0_tree.specs.View.{decl_view}
use Rattle.c0_tokens.specs.declared.token.Mark.TheVariants.{Comma}
use Rattle.c0_parser.specs.Value.{SemanticValue, none, decls}
use Rattle.c0_parser.specs.Grammar.{sign, the, decl, ◌▸◌}
use Rattle.c0_parser.specs.Contract.{as_seen, PieceGoesOn}
use Rattle.c0_parser.proofs.types.more_parameters.Given as goal

abbrev pub invariant-loop-after_comma : goal.invariant-loop-after_comma
invariant-loop-after_comma l = (v : SemanticValue) × PieceGoesOn (sign Comma ▸ the decl) (as_seen l.fn.ts) none (as_seen l.rest) v × (map decl_view l.fn.first.items ++ decls v ≡ map decl_view l.list.items) × (length l.rest ≤ length l.fn.ts)

abbrev pub decreases-loop-after_comma : goal.decreases-loop-after_comma
decreases-loop-after_comma l = length l.rest
