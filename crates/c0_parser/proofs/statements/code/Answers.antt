-- A body is read, or refused, as the grammar's piece for it.
use Rattle.std.proofs.Common.{arith}
use Rattle.c0_parser.specs.Grammar.{◌▸◌, the, many, statement, code, LINE}
use Rattle.c0_parser.specs.Views.{IsBody}
use Rattle.c0_parser.specs.Stmts.{RETURNED}
use Rattle.c0_parser.proofs.PieceSteps.{goes_both, goes_the, fails_the, fails_left, fails_right, exits}
use Rattle.c0_parser.proofs.PartsOfStatements.{bodied}
use Rattle.c0_parser.proofs.statements.code.Goals as goal

pub returns-in_err-rest : goal.returns-in_err-rest
returns-in_err-rest c = exits (the code) IsBody _ _ _ c.from_residual.ensures.1 (fails_the code (fails_left (many LINE ▸ many (the statement) ▸ RETURNED) c.in_err-rest.ensures))

pub returns-in_err-locals : goal.returns-in_err-locals
returns-in_err-locals c =
    let o = c.in_ok-rest.ensures in
    exits (the code) IsBody _ _ _ c.from_residual-in_err-locals.ensures.1 (fails_the code (fails_right o.1 (fails_left (many (the statement) ▸ RETURNED) c.in_err-locals.ensures)))

pub returns-in_err-stmts : goal.returns-in_err-stmts
returns-in_err-stmts c =
    let o = c.in_ok-rest.ensures in
    let l = c.in_ok-locals.ensures in
    exits (the code) IsBody _ _ _ c.from_residual-in_err-stmts.ensures.1 (fails_the code (fails_right o.1 (fails_right l.1 (fails_left RETURNED c.in_err-stmts.ensures))))

pub returns-in_err-answer : goal.returns-in_err-answer
returns-in_err-answer c =
    let o = c.in_ok-rest.ensures in
    let l = c.in_ok-locals.ensures in
    let s = c.in_ok-stmts.ensures in
    exits (the code) IsBody _ _ _ c.from_residual-in_err-answer.ensures.1 (fails_the code (fails_right o.1 (fails_right l.1 (fails_right s.1 c.in_err-answer.ensures))))

pub returns : goal.returns
returns c =
    let o = c.in_ok-rest.ensures in
    let l = c.in_ok-locals.ensures in
    let s = c.in_ok-stmts.ensures in
    let r = c.in_ok-answer.ensures in
    (_, goes_the code (goes_both o.1 (goes_both l.1 (goes_both s.1 r.1))), bodied _ r.2.0 r.2.2 r.2.3 r.2.1 _ _ l.0 s.0 _ _ _ o.2 l.2 s.2 r.2.4, omega (arith, o.3, l.3, s.3, r.3))
