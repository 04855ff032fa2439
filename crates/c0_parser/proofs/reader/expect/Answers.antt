use Rattle.std.proofs.Common.{refl}
use Rattle.c0_parser.proofs.PieceSteps.{goes_sign, fails_sign, shorter}
use Rattle.c0_parser.proofs.reader.expect.Goals as goal

pub returns-in-Some : goal.returns-in-Some
returns-in-Some c = let e = c.in-Some.ensures in (_, goes_sign _ _ _ _ e.0 e.1, refl, shorter _ _ _ e.0)

pub returns-in-None : goal.returns-in-None
returns-in-None c = fails_sign _ _ c.in-None.ensures
