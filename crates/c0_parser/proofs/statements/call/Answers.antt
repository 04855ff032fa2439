-- A call is read, or refused, as the grammar's piece for it.
use Rattle.std.proofs.Common.{arith}
use Rattle.c0_tokens.specs.declared.token.Mark.TheVariants.{OpenParen, CloseParen}
use Rattle.c0_parser.specs.Grammar.{sign, ◌▸◌, CALL, ARGS}
use Rattle.c0_parser.specs.Views.{IsRight}
use Rattle.c0_parser.proofs.PieceSteps.{goes_both, fails_left, fails_right, exits}
use Rattle.c0_parser.proofs.PartsOfStatements.{called}
use Rattle.c0_parser.proofs.statements.call.Goals as goal

pub returns-in_err-function : goal.returns-in_err-function
returns-in_err-function c = exits CALL IsRight _ _ _ c.from_residual.ensures.1 (fails_left (sign OpenParen ▸ ARGS ▸ sign CloseParen) c.in_err-function.ensures)

pub returns-in_err-rest : goal.returns-in_err-rest
returns-in_err-rest c =
    let f = c.in_ok-function.ensures in
    exits CALL IsRight _ _ _ c.from_residual-in_err-rest.ensures.1 (fails_right f.1 (fails_left (ARGS ▸ sign CloseParen) c.in_err-rest.ensures))

pub returns-in_err-args : goal.returns-in_err-args
returns-in_err-args c =
    let f = c.in_ok-function.ensures in
    let o = c.in_ok-rest.ensures in
    exits CALL IsRight _ _ _ c.from_residual-in_err-args.ensures.1 (fails_right f.1 (fails_right o.1 (fails_left (sign CloseParen) c.in_err-args.ensures)))

pub returns-in_err-closing : goal.returns-in_err-closing
returns-in_err-closing c =
    let f = c.in_ok-function.ensures in
    let o = c.in_ok-rest.ensures in
    let a = c.in_ok-args.ensures in
    exits CALL IsRight _ _ _ c.from_residual-in_err-closing.ensures.1 (fails_right f.1 (fails_right o.1 (fails_right a.1 c.in_err-closing.ensures)))

pub returns : goal.returns
returns c =
    let f = c.in_ok-function.ensures in
    let o = c.in_ok-rest.ensures in
    let a = c.in_ok-args.ensures in
    let k = c.in_ok-closing.ensures in
    (_, goes_both f.1 (goes_both o.1 (goes_both a.1 k.1)), called c.in_ok-function.function _ _ c.in_ok-closing.closing _ _ _ _ _ f.2.1 f.2.2 o.2 a.2 k.2, omega (arith, f.3, o.3, a.3, k.3))
