-- The end of a body is read, or refused, as the grammar's piece for it.
use Rattle.std.proofs.Common.{arith}
use Rattle.c0_tokens.specs.declared.token.Mark.TheVariants.{CloseBrace, Semicolon}
use Rattle.c0_parser.specs.Grammar.{sign, ◌▸◌, EXPR}
use Rattle.c0_parser.specs.Stmts.{RETURNED, IsReturned}
use Rattle.c0_parser.proofs.PieceSteps.{goes_both, fails_left, fails_right, exits}
use Rattle.c0_parser.proofs.PartsOfStatements.{returning}
use Rattle.c0_parser.proofs.statements.returned.Goals as goal

pub returns-in_err-rest : goal.returns-in_err-rest
returns-in_err-rest c = exits RETURNED IsReturned _ _ _ c.from_residual.ensures.1 (fails_left (EXPR ▸ sign Semicolon ▸ sign CloseBrace) c.in_err-rest.ensures)

pub returns-in_err-part : goal.returns-in_err-part
returns-in_err-part c =
    let w = c.in_ok-rest.ensures in
    exits RETURNED IsReturned _ _ _ c.from_residual-in_err-part.ensures.1 (fails_right w.1 (fails_left (sign Semicolon ▸ sign CloseBrace) c.in_err-part.ensures))

pub returns-in_err-rest-2 : goal.returns-in_err-rest-2
returns-in_err-rest-2 c =
    let w = c.in_ok-rest.ensures in
    let e = c.in_ok-part.ensures in
    exits RETURNED IsReturned _ _ _ c.from_residual-in_err-rest-2.ensures.1 (fails_right w.1 (fails_right e.1 (fails_left (sign CloseBrace) c.in_err-rest-2.ensures)))

pub returns-in_err-rest-3 : goal.returns-in_err-rest-3
returns-in_err-rest-3 c =
    let w = c.in_ok-rest.ensures in
    let e = c.in_ok-part.ensures in
    let s = c.in_ok-rest-2.ensures in
    exits RETURNED IsReturned _ _ _ c.from_residual-in_err-rest-3.ensures.1 (fails_right w.1 (fails_right e.1 (fails_right s.1 c.in_err-rest-3.ensures)))

pub returns : goal.returns
returns c =
    let w = c.in_ok-rest.ensures in
    let e = c.in_ok-part.ensures in
    let s = c.in_ok-rest-2.ensures in
    let k = c.in_ok-rest-3.ensures in
    (_, goes_both w.1 (goes_both e.1 (goes_both s.1 k.1)), returning _ _ _ c.in_ok-part.part _ _ _ _ w.2 e.2 s.2 k.2, omega (arith, w.3, e.3, s.3, k.3))
