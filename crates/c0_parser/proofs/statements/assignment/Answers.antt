-- An assignment is read, or refused, as the grammar's piece for it.
use Rattle.std.proofs.Common.{arith}
use Rattle.c0_tokens.specs.declared.token.Mark.TheVariants.{Assign, Semicolon}
use Rattle.c0_parser.specs.Grammar.{sign, ◌▸◌, RIGHT}
use Rattle.c0_parser.specs.Stmts.{ASSIGNMENT, IsStmtOf}
use Rattle.c0_parser.proofs.PieceSteps.{goes_both, fails_left, fails_right, exits}
use Rattle.c0_parser.proofs.PartsOfStatements.{assigned}
use Rattle.c0_parser.proofs.statements.assignment.Goals as goal

pub returns-in_err-place : goal.returns-in_err-place
returns-in_err-place c = exits ASSIGNMENT IsStmtOf _ _ _ c.from_residual.ensures.1 (fails_left (sign Assign ▸ RIGHT ▸ sign Semicolon) c.in_err-place.ensures)

pub returns-in_err-rest : goal.returns-in_err-rest
returns-in_err-rest c =
    let p = c.in_ok-place.ensures in
    exits ASSIGNMENT IsStmtOf _ _ _ c.from_residual-in_err-rest.ensures.1 (fails_right p.1 (fails_left (RIGHT ▸ sign Semicolon) c.in_err-rest.ensures))

pub returns-in_err-right : goal.returns-in_err-right
returns-in_err-right c =
    let p = c.in_ok-place.ensures in
    let e = c.in_ok-rest.ensures in
    exits ASSIGNMENT IsStmtOf _ _ _ c.from_residual-in_err-right.ensures.1 (fails_right p.1 (fails_right e.1 (fails_left (sign Semicolon) c.in_err-right.ensures)))

pub returns-in_err-last : goal.returns-in_err-last
returns-in_err-last c =
    let p = c.in_ok-place.ensures in
    let e = c.in_ok-rest.ensures in
    let r = c.in_ok-right.ensures in
    exits ASSIGNMENT IsStmtOf _ _ _ c.from_residual-in_err-last.ensures.1 (fails_right p.1 (fails_right e.1 (fails_right r.1 c.in_err-last.ensures)))

pub returns : goal.returns
returns c =
    let p = c.in_ok-place.ensures in
    let e = c.in_ok-rest.ensures in
    let r = c.in_ok-right.ensures in
    let l = c.in_ok-last.ensures in
    (_, goes_both p.1 (goes_both e.1 (goes_both r.1 l.1)), assigned _ _ _ _ _ _ _ _ _ p.2 e.2 r.2 l.2 c.storing-stmt.ensures, omega (arith, p.3, e.3, r.3, l.3))
