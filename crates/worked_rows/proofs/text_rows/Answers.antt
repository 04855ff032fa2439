-- Each row is computed.
use Rattle.std.proofs.Common.{refl}
use Rattle.std.specs.Fmt.{digits}
use Rattle.worked_rows.proofs.text_rows.Goals as goal

pub returns : goal.returns
unfolding digits
returns c = record { whole = refl; without_last_steps = refl; user = refl; trace = refl }
