-- Statements stand in blocks and blocks in statements: each call has fewer tokens left, or as many and stands lower in the order of the
-- functions. A list of statements is read on from none.
use Rattle.std.proofs.Common.{◌≡◌, ◌+◌, ◌*◌, ◌≤◌, length, map}
use Rattle.c0_tree.specs.View.{stmt_view}
use Rattle.c0_parser.specs.Value.{SemanticValue, none, stmts}
use Rattle.c0_parser.specs.Grammar.{the, statement}
use Rattle.c0_parser.specs.Contract.{as_seen, PieceGoesOn}
use Rattle.c0_parser.proofs.statements.+statements.Given as goal

abbrev pub decreases-statement : goal.decreases-statement
decreases-statement l = 4 * length l.ts.now + 2

abbrev pub decreases-choice : goal.decreases-choice
decreases-choice l = 4 * length l.ts.now + 1

abbrev pub decreases-repetition : goal.decreases-repetition
decreases-repetition l = 4 * length l.ts.now + 1

abbrev pub decreases-otherwise : goal.decreases-otherwise
decreases-otherwise l = 4 * length l.ts.now + 1

abbrev pub decreases-statements : goal.decreases-statements
decreases-statements l = 4 * length l.ts.now + 3

abbrev pub decreases-braces : goal.decreases-braces
decreases-braces l = 4 * length l.ts.now

abbrev pub invariant-statements-loop-here : goal.invariant-statements-loop-here
invariant-statements-loop-here l = (v : SemanticValue) × PieceGoesOn (the statement) (as_seen l.fn.ts) none (as_seen l.rest) v × (stmts v ≡ map stmt_view l.stmts.items) × (length l.rest ≤ length l.fn.ts)

abbrev pub decreases-statements-loop-here : goal.decreases-statements-loop-here
decreases-statements-loop-here l = length l.rest
