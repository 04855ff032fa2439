use Rattle.std.proofs.Common.{arith}
use Rattle.c0_tokens.specs.declared.token.Mark.TheVariants.{CloseParen, Comma}
use Rattle.c0_parser.specs.Grammar.{the, decl, body, sign, many, maybe, ◌▸◌, FUNCTION}
use Rattle.c0_parser.specs.Views.{IsItemOfDecl}
use Rattle.c0_parser.proofs.PieceSteps.{goes_both, fails_left, fails_right, exits}
use Rattle.c0_parser.proofs.PartsMean.{function_meaning}
use Rattle.c0_parser.proofs.items.function.Goals as goal

pub returns-in_err-rest : goal.returns-in_err-rest
returns-in_err-rest c =
    exits FUNCTION (IsItemOfDecl c.args.decl) _ _ _ c.from_residual.ensures.1 (fails_left (maybe (the decl ▸ many (sign Comma ▸ the decl)) ▸ sign CloseParen ▸ the body) c.in_err-rest.ensures)

pub returns-in_err-params : goal.returns-in_err-params
returns-in_err-params c =
    exits FUNCTION (IsItemOfDecl c.args.decl) _ _ _ c.from_residual-in_err-params.ensures.1 (fails_right c.in_ok-rest.ensures.1 (fails_left (sign CloseParen ▸ the body) c.in_err-params.ensures))

pub returns-in_err-rest-2 : goal.returns-in_err-rest-2
returns-in_err-rest-2 c =
    exits FUNCTION (IsItemOfDecl c.args.decl) _ _ _ c.from_residual-in_err-rest-2.ensures.1 (fails_right c.in_ok-rest.ensures.1 (fails_right c.in_ok-params.ensures.1 (fails_left (the body) c.in_err-rest-2.ensures)))

pub returns-in_err-body : goal.returns-in_err-body
returns-in_err-body c =
    exits FUNCTION (IsItemOfDecl c.args.decl) _ _ _ c.from_residual-in_err-body.ensures.1 (fails_right c.in_ok-rest.ensures.1 (fails_right c.in_ok-params.ensures.1 (fails_right c.in_ok-rest-2.ensures.1 c.in_err-body.ensures)))

pub returns : goal.returns
returns c =
    let o = c.in_ok-rest.ensures in
    let p = c.in_ok-params.ensures in
    let q = c.in_ok-rest-2.ensures in
    let b = c.in_ok-body.ensures in
    (_, goes_both o.1 (goes_both p.1 (goes_both q.1 b.1)), function_meaning _ _ _ _ _ _ _ _ _ o.2 p.2 q.2 b.2, omega (arith, o.3, p.3, q.3, b.3))
