-- Each row is computed.
use Rattle.std.proofs.Common.{refl}
use Rattle.worked_rows.proofs.map_rows.Goals as goal

pub returns : goal.returns
returns c = record { parts = refl; blocks = refl; steps = refl }
