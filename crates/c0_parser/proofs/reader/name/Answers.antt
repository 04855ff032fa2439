use Rattle.std.proofs.Common.{refl}
use Rattle.c0_parser.proofs.PieceSteps.{goes_name, named_at, fails_name, shorter}
use Rattle.c0_parser.proofs.reader.name.Goals as goal

pub returns-in_ok-bytes-in-Some : goal.returns-in_ok-bytes-in-Some
returns-in_ok-bytes-in-Some c = let e = c.in-Some.ensures in (_, goes_name _ _ _ _ e.0 e.1, (_, refl, named_at _ _ _ e.1 c.in_ok-bytes-in-Some.ensures.items), shorter _ _ _ e.0)

pub returns-in-None : goal.returns-in-None
returns-in-None c = fails_name _ c.in-None.ensures
