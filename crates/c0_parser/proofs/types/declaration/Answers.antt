use Rattle.std.proofs.Common.{arith}
use Rattle.c0_parser.specs.Grammar.{the, decl, NAME}
use Rattle.c0_parser.specs.Views.{IsDecl}
use Rattle.c0_parser.proofs.PieceSteps.{decl_meaning, goes_the, goes_both, fails_the, fails_left, fails_right, exits}
use Rattle.c0_parser.proofs.types.declaration.Goals as goal

pub returns-in_err-typed : goal.returns-in_err-typed
returns-in_err-typed c = exits (the decl) IsDecl _ _ _ c.from_residual.ensures.1 (fails_the decl (fails_left NAME c.in_err-typed.ensures))

pub returns-in_err-name : goal.returns-in_err-name
returns-in_err-name c = exits (the decl) IsDecl _ _ _ c.from_residual-in_err-name.ensures.1 (fails_the decl (fails_right c.in_ok-typed.ensures.1 c.in_err-name.ensures))

pub returns : goal.returns
returns c =
    let t = c.in_ok-typed.ensures in
    let n = c.in_ok-name.ensures in
    (_, goes_the decl (goes_both t.1 n.1), decl_meaning _ _ _ _ _ _ t.2 n.2.1 n.2.2, omega (arith, t.3, n.3))
