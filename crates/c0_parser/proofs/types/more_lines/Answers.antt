use Rattle.std.proofs.Common.{length, refl, ap, arith}
use Rattle.c0_tokens.specs.declared.token.Mark.TheVariants.{Semicolon}
use Rattle.c0_parser.specs.Value.{none, snoc}
use Rattle.c0_parser.specs.Grammar.{many, LINE, sign, the, decl}
use Rattle.c0_parser.specs.Contract.{as_seen}
use Rattle.c0_parser.specs.Views.{AreMoreLines}
use Rattle.c0_parser.proofs.PieceSteps.{list_begins, list_more, goes_many, heads_then, heads_not, fails_list, more_decls, no_decls, exits_any}
use Rattle.c0_parser.proofs.types.more_lines.Goals as goal

pub loop-here-init : goal.loop-here-init
loop-here-init c =
    let b = c.read_so_far-list.ensures in
    (none, list_begins LINE _ _ b.rest, no_decls _ _ (ap (λ v. v.items) b.value), omega (arith, ap length b.rest))

pub returns-in_err-decl : goal.returns-in_err-decl
returns-in_err-decl c =
    let i = c.loop-here.invariant in
    let a = c.in-Some.ensures in
    exits_any (many LINE) (AreMoreLines c.args.first) _ _ _ c.from_residual.ensures.1 (fails_list i.1 a.0 (heads_then (the decl) (sign Semicolon) (as_seen c.loop-here.rest.now) a.1) c.in_err-decl.ensures)

pub loop-here-preserved : goal.loop-here-preserved
loop-here-preserved c =
    let i = c.loop-here.invariant in
    let a = c.in-Some.ensures in
    let o = c.in_ok-decl.ensures in
    (snoc i.0 o.0, list_more i.1 a.0 (heads_then (the decl) (sign Semicolon) (as_seen c.loop-here.rest.now) a.1) o.1, more_decls c.args.first.items c.loop-here.list.items c.push.new.self.items c.in_ok-decl.decl i.0 o.0 i.2 o.2 c.in_ok-push.ensures.items, omega (arith, i.3, o.3, ap length a.0))

pub returns : goal.returns
returns c = let i = c.loop-here.invariant in (i.0, goes_many i.1 (heads_not (the decl) (sign Semicolon) (as_seen c.loop-here.rest.now) refl c.in_default.ensures), i.2, i.3)
