-- Each row is computed.
use Rattle.std.proofs.Common.{refl}
use Rattle.cvm_outside.specs.Script.{scripts}
use Rattle.mips_table.specs.Machine.{step}
use Rattle.mips_machine.specs.Steps.{before_count, script_of_step}
use Rattle.mips_table.specs.Turns.{begins_turn, handled, rests}
use Rattle.boot_turns.proofs.rows.machine_rows.Goals as goal

pub returns-clause-turns : goal.returns-clause-turns
unfolding step begins_turn handled rests
returns-clause-turns c = record { begun = refl; complete = refl; lines = refl; ends = refl; off = refl }

pub returns-clause-input : goal.returns-clause-input
unfolding step
returns-clause-input c = record { loaded = refl; left = refl; logged = refl; ran = refl; taken = refl }

pub returns-clause-transfer : goal.returns-clause-transfer
unfolding step script_of_step before_count scripts
returns-clause-transfer c = record { by_step = refl; all = refl; later = refl }
