-- The run is computed.
use Rattle.std.proofs.Common.{refl}
use Rattle.mips_table.specs.Machine.{step}
use Rattle.mips_table.proofs.runs.hi_and_lo_are_set.Goals as goal

pub returns : goal.returns
unfolding step
returns c = record { low = refl; high = refl; quotient = refl; rest = refl }
