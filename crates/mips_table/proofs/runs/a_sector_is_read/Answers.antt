-- The run is computed.
use Rattle.std.proofs.Common.{refl}
use Rattle.mips_table.specs.Machine.{step}
use Rattle.mips_table.proofs.runs.a_sector_is_read.Goals as goal

pub returns : goal.returns
unfolding step
returns c = record { status = refl; status_later = refl; status_last = refl; status_idle = refl; word = refl }
