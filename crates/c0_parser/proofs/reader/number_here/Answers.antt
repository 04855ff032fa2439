use Rattle.std.proofs.Common.{refl, ap}
use Rattle.c0_parser.specs.Value.{literal_value}
use Rattle.c0_parser.proofs.PieceSteps.{goes_number, fails_number, shorter}
use Rattle.c0_parser.proofs.reader.number_here.Goals as goal

pub returns-in-Some : goal.returns-in-Some
returns-in-Some c = let e = c.in-Some.ensures in (_, goes_number _ _ _ _ e.0 e.1, (_, refl, ap literal_value e.1), shorter _ _ _ e.0)

pub returns-in-None : goal.returns-in-None
returns-in-None c = fails_number _ c.in-None.ensures
