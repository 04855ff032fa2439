use Rattle.std.proofs.Common.{[], length, sym}
use Rattle.c0_parser.specs.Sorts.{the_end}
use Rattle.c0_parser.specs.Value.{token}
use Rattle.c0_parser.specs.Grammar.{one_of}
use Rattle.c0_parser.specs.Contract.{as_seen}
use Rattle.c0_parser.proofs.PieceSteps.{goes_both, fails_left, fails_right, fails_by, refuses_one, seen_length}
use Rattle.c0_parser.proofs.SourcesRead.{exits_to_end, goes_heads}
use Rattle.c0_parser.proofs.source.items_to_end.Goals as goal

pub returns-in_err-items : goal.returns-in_err-items
returns-in_err-items c = exits_to_end _ _ _ c.from_residual.ensures.1 (fails_left (one_of the_end []) c.in_err-items.ensures)

pub returns-then-is_end : goal.returns-then-is_end
returns-then-is_end c =
    let o = c.in_ok-items.ensures in
    let g = goes_heads the_end [] (as_seen c.in_ok-items.rest.now) (sym c.if-is_end.ensures) in
    record { items = o.0; stop = token g.0; rest = g.1; goes = goes_both o.1 g.2; are = o.2 }

pub returns-else-is_end : goal.returns-else-is_end
returns-else-is_end c =
    let o = c.in_ok-items.ensures in
    fails_right o.1 (fails_by (length c.in_ok-items.rest.now) (refuses_one the_end [] (as_seen c.in_ok-items.rest.now) (sym c.if-is_end.ensures)) (seen_length _))
