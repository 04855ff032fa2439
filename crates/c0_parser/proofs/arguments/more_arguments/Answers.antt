-- Each further argument is a comma and an expression.
use Rattle.std.proofs.Common.{length, refl, ap, arith}
use Rattle.c0_tokens.specs.declared.token.Mark.TheVariants.{Comma}
use Rattle.c0_tokens.specs.Tokens.{token_view}
use Rattle.c0_parser.specs.Sorts.{mark}
use Rattle.c0_parser.specs.Value.{token, pair, none, snoc}
use Rattle.c0_parser.specs.Grammar.{many, sign, ◌▸◌, EXPR}
use Rattle.c0_parser.specs.Contract.{as_seen}
use Rattle.c0_parser.specs.Stmts.{AreMoreArgs}
use Rattle.c0_parser.proofs.PieceSteps.{list_begins, list_item, goes_many, goes_both, goes_sign, heads_not, heads_is, mark_kind, fails_many, fails_right, exits_any}
use Rattle.c0_parser.proofs.PartsOfStatements.{no_args, more_args}
use Rattle.c0_parser.proofs.arguments.more_arguments.Goals as goal

pub loop-after_comma-init : goal.loop-after_comma-init
loop-after_comma-init c =
    let b = c.read_so_far-list.ensures in
    (none, list_begins (sign Comma ▸ EXPR) _ _ b.rest, no_args _ _ (ap (λ v. v.items) b.value), omega (arith, ap length b.rest))

pub returns-in_err-part : goal.returns-in_err-part
returns-in_err-part c =
    let i = c.loop-after_comma.invariant in
    let e = c.in-Some.ensures in
    exits_any (many (sign Comma ▸ EXPR)) (AreMoreArgs c.args.first) _ _ _ c.from_residual.ensures.1
    (fails_many i.1 (heads_is (sign Comma ▸ EXPR) (mark Comma) e.0 (mark_kind e.1)) (fails_right (goes_sign _ _ _ _ e.0 e.1) c.in_err-part.ensures))

pub loop-after_comma-preserved : goal.loop-after_comma-preserved
loop-after_comma-preserved c =
    let i = c.loop-after_comma.invariant in
    let e = c.in-Some.ensures in
    let o = c.in_ok-part.ensures in (
      snoc i.0 (pair (token (token_view c.in-Some.field-0-0)) o.0),
      list_item i.1 (heads_is (sign Comma ▸ EXPR) (mark Comma) e.0 (mark_kind e.1)) (goes_both (goes_sign _ _ _ _ e.0 e.1) o.1),
      more_args c.args.first.items c.loop-after_comma.list.items c.push.new.self.items c.in_ok-part.part i.0 o.0 (token_view c.in-Some.field-0-0) i.2 o.2 c.in_ok-push.ensures.items,
      omega (arith, i.3, o.3, ap length e.0),
    )

pub returns : goal.returns
returns c =
    let i = c.loop-after_comma.invariant in
    (i.0, goes_many i.1 (heads_not (sign Comma) EXPR (as_seen c.loop-after_comma.rest.now) refl c.in_default.ensures), i.2, i.3)
