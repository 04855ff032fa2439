use Rattle.std.proofs.Common.{refl, arith}
use Rattle.c0_parser.specs.Grammar.{sign, LINE}
use Rattle.c0_tokens.specs.declared.token.Mark.TheVariants.{Semicolon}
use Rattle.c0_parser.specs.Views.{IsListed}
use Rattle.c0_parser.proofs.PieceSteps.{goes_both, fails_left, fails_right, exits}
use Rattle.c0_parser.proofs.types.line.Goals as goal

pub returns-in_err-decl : goal.returns-in_err-decl
returns-in_err-decl c = exits LINE IsListed _ _ _ c.from_residual.ensures.1 (fails_left (sign Semicolon) c.in_err-decl.ensures)

pub returns-in_err-rest : goal.returns-in_err-rest
returns-in_err-rest c = exits LINE IsListed _ _ _ c.from_residual-in_err-rest.ensures.1 (fails_right c.in_ok-decl.ensures.1 c.in_err-rest.ensures)

pub returns : goal.returns
returns c =
    let d = c.in_ok-decl.ensures in
    let s = c.in_ok-rest.ensures in
    (_, goes_both d.1 s.1, rw d.2 refl, omega (arith, d.3, s.3))
