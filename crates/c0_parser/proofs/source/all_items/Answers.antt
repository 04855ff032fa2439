use Rattle.std.proofs.Common.{length, sym, ap, subst, arith}
use Rattle.c0_parser.specs.Value.{none, snoc}
use Rattle.c0_parser.specs.Grammar.{many}
use Rattle.c0_parser.specs.Factored.{FACTORED}
use Rattle.c0_parser.specs.Contract.{as_seen}
use Rattle.c0_parser.specs.ToEnd.{AreItems}
use Rattle.c0_parser.proofs.PieceSteps.{list_begins, list_more, goes_many, fails_list, exits_any}
use Rattle.c0_parser.proofs.SourcesRead.{item_heads, no_item, items_more}
use Rattle.c0_parser.proofs.source.all_items.Goals as goal

pub loop-here-init : goal.loop-here-init
loop-here-init c =
    let b = c.read_so_far-all.ensures in
    (none, list_begins FACTORED _ _ b.rest, subst (λ i. AreItems i none) (sym b.value) c.no_items.ensures, omega (arith, ap length b.rest))

pub returns-in_err-item : goal.returns-in_err-item
returns-in_err-item c =
    let i = c.loop-here.invariant in
    let a = c.in-Some.ensures in
    exits_any (many FACTORED) AreItems _ _ _ c.from_residual.ensures.1 (fails_list i.1 a.0 (item_heads (as_seen c.loop-here.rest.now) a.1) c.in_err-item.ensures)

pub loop-here-preserved : goal.loop-here-preserved
loop-here-preserved c =
    let i = c.loop-here.invariant in
    let a = c.in-Some.ensures in
    let o = c.in_ok-item.ensures in
    (snoc i.0 o.0, list_more i.1 a.0 (item_heads (as_seen c.loop-here.rest.now) a.1) o.1, items_more i.0 o.0 _ _ _ i.2 o.2 c.in_ok-all.ensures, omega (arith, i.3, o.3, ap length a.0))

pub returns : goal.returns
returns c = let i = c.loop-here.invariant in (i.0, goes_many i.1 (no_item (as_seen c.loop-here.rest.now) c.in_default.ensures), i.2, i.3)
