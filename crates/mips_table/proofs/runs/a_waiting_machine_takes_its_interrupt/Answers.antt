-- The run is computed.
use Rattle.std.proofs.Common.{refl}
use Rattle.mips_table.specs.Machine.{step}
use Rattle.mips_table.proofs.runs.a_waiting_machine_takes_its_interrupt.Goals as goal

pub returns : goal.returns
unfolding step
returns c = record { special = refl; pc = refl; mask = refl }
