-- Arguments are an expression and further ones, or none where no expression begins.
use Rattle.std.proofs.Common.{◌++◌, length, map, refl, sym, ap, ◌∙◌, arith}
use Rattle.c0_tree.specs.View.{expr_view}
use Rattle.c0_tokens.specs.declared.token.Mark.TheVariants.{Comma}
use Rattle.c0_parser.specs.Value.{none, exprs}
use Rattle.c0_parser.specs.Grammar.{◌▸◌, many, sign, EXPR, ARGS}
use Rattle.c0_parser.specs.Contract.{as_seen}
use Rattle.c0_parser.specs.Views.{AreArgs}
use Rattle.c0_parser.specs.Stmts.{AreMoreArgs}
use Rattle.c0_parser.proofs.PieceSteps.{goes_both, goes_with_at, goes_without, heads_then, heads_not, fails_left, fails_right, fails_with_at, exits_any, tails_any}
use Rattle.c0_parser.proofs.PartsOfStatements.{one_arg}
use Rattle.c0_parser.proofs.arguments.arguments.Goals as goal

pub returns-in_err-first-in-Some : goal.returns-in_err-first-in-Some
returns-in_err-first-in-Some c =
    let a = c.in-Some.ensures in
    exits_any ARGS AreArgs _ _ _ c.from_residual.ensures.1
    (fails_with_at a.0 (heads_then EXPR (many (sign Comma ▸ EXPR)) (as_seen c.args.ts.now) a.1) (fails_left (many (sign Comma ▸ EXPR)) c.in_err-first-in-Some.ensures))

pub returns-in_ok-push-in-Some : goal.returns-in_ok-push-in-Some
returns-in_ok-push-in-Some c =
    let a = c.in-Some.ensures in
    let b = c.in_ok-first-in-Some.ensures in
    tails_any ARGS (many (sign Comma ▸ EXPR)) AreArgs (AreMoreArgs c.push.new.self) _ _ _
    (λ x r. (
      _,
      goes_with_at a.0 (heads_then EXPR (many (sign Comma ▸ EXPR)) (as_seen c.args.ts.now) a.1) (goes_both b.1 r.1),
      ap (λ l. l ++ exprs r.0) (one_arg c.in_ok-first-in-Some.first c.new-list.result.items c.push.new.self.items b.0 b.2 c.new-list.ensures.items c.in_ok-push-in-Some.ensures.items) ∙ r.2,
      omega (arith, b.3, r.3, ap length a.0),
    ))
    (λ h f. fails_with_at a.0 (heads_then EXPR (many (sign Comma ▸ EXPR)) (as_seen c.args.ts.now) a.1) (fails_right b.1 f)) c.more_arguments.ensures

pub returns-in-None : goal.returns-in-None
returns-in-None c = (none, goes_without _ _ (heads_not EXPR (many (sign Comma ▸ EXPR)) (as_seen c.args.ts.now) refl c.in-None.ensures), sym (ap (map expr_view) c.new.ensures.items), omega arith)
