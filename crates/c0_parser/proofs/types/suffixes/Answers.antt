use Rattle.std.proofs.Common.{length, sym, ap, ◌∙◌, arith}
use Rattle.c0_parser.specs.Value.{none, snoc, type_suffixed}
use Rattle.c0_parser.specs.Grammar.{SUFFIX, SUFFIXES}
use Rattle.c0_parser.specs.Views.{typed, AreSuffixes}
use Rattle.c0_parser.proofs.PieceSteps.{list_begins, list_more, goes_many, fails_list, exits_any}
use Rattle.c0_parser.proofs.types.suffixes.Goals as goal

pub loop-here-init : goal.loop-here-init
loop-here-init c =
    let b = c.read_so_far-ty.ensures in
    (none, list_begins SUFFIX _ _ b.rest, ap typed (sym b.value), omega (arith, ap length b.rest))

pub returns-in_err-longer : goal.returns-in_err-longer
returns-in_err-longer c =
    let i = c.loop-here.invariant in
    let a = c.in-Some.ensures in
    exits_any SUFFIXES (AreSuffixes c.args.base) _ _ _ c.from_residual.ensures.1 (fails_list i.1 a.0 a.1 c.in_err-longer.ensures)

pub loop-here-preserved : goal.loop-here-preserved
loop-here-preserved c =
    let i = c.loop-here.invariant in
    let a = c.in-Some.ensures in
    let o = c.in_ok-longer.ensures in
    (snoc i.0 o.0, list_more i.1 a.0 a.1 o.1, ap (λ t. type_suffixed t o.0) i.2 ∙ o.2, omega (arith, i.3, o.3, ap length a.0))

pub returns : goal.returns
returns c = let i = c.loop-here.invariant in (i.0, goes_many i.1 c.in_default.ensures, i.2, i.3)
