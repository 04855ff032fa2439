-- The run is computed.
use Rattle.std.proofs.Common.{refl}
use Rattle.mips_table.specs.Machine.{step}
use Rattle.mips_table.proofs.runs.the_power_goes_off.Goals as goal

pub returns-clause-off : goal.returns-clause-off
unfolding step
returns-clause-off c = refl

pub returns-clause-still : goal.returns-clause-still
unfolding step
returns-clause-still c = refl
