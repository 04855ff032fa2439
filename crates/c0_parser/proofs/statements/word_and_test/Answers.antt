-- A word and its test are read in front of any piece.
use Rattle.std.proofs.Common.{refl, arith}
use Rattle.c0_tokens.specs.declared.token.Mark.TheVariants.{OpenParen, CloseParen}
use Rattle.c0_parser.specs.Grammar.{sign, ◌▸◌, EXPR}
use Rattle.c0_tokens.specs.Tokens.{token_view}
use Rattle.c0_parser.proofs.PieceSteps.{goes_both, fails_left, fails_right}
use Rattle.c0_parser.proofs.PartsOfStatements.{exits_test, tested}
use Rattle.c0_parser.proofs.statements.word_and_test.Goals as goal

pub returns-in_err-first : goal.returns-in_err-first
returns-in_err-first c = exits_test _ _ _ _ c.from_residual.ensures.1 (λ q. fails_left (sign OpenParen ▸ EXPR ▸ sign CloseParen ▸ q) c.in_err-first.ensures)

pub returns-in_err-rest : goal.returns-in_err-rest
returns-in_err-rest c =
    let w = c.in_ok-first.ensures in
    exits_test _ _ _ _ c.from_residual-in_err-rest.ensures.1 (λ q. fails_right w.1 (fails_left (EXPR ▸ sign CloseParen ▸ q) c.in_err-rest.ensures))

pub returns-in_err-part : goal.returns-in_err-part
returns-in_err-part c =
    let w = c.in_ok-first.ensures in
    let o = c.in_ok-rest.ensures in
    exits_test _ _ _ _ c.from_residual-in_err-part.ensures.1 (λ q. fails_right w.1 (fails_right o.1 (fails_left (sign CloseParen ▸ q) c.in_err-part.ensures)))

pub returns-in_err-rest-2 : goal.returns-in_err-rest-2
returns-in_err-rest-2 c =
    let w = c.in_ok-first.ensures in
    let o = c.in_ok-rest.ensures in
    let a = c.in_ok-part.ensures in
    exits_test _ _ _ _ c.from_residual-in_err-rest-2.ensures.1 (λ q. fails_right w.1 (fails_right o.1 (fails_right a.1 (fails_left q c.in_err-rest-2.ensures))))

pub returns : goal.returns
returns c =
    let w = c.in_ok-first.ensures in
    let o = c.in_ok-rest.ensures in
    let a = c.in_ok-part.ensures in
    let k = c.in_ok-rest-2.ensures in (
      record {
        word = token_view c.in_ok-first.first;
        at_word = refl;
        goes = λ q v last d. (_, goes_both w.1 (goes_both o.1 (goes_both a.1 (goes_both k.1 d))), tested _ _ _ _ _ _ _ _ _ w.2 o.2 a.2 k.2);
        fails = λ q h d. fails_right w.1 (fails_right o.1 (fails_right a.1 (fails_right k.1 d)));
      },
      omega (arith, w.3, o.3, a.3, k.3),
    )
