-- By the flat machine's step.
use Rattle.mips_table.proofs.SystemCallTraps.{flat_calls}
use Rattle.mips_table.proofs.runs.a_system_call_traps.Goals as goal

pub returns : goal.returns
returns c = flat_calls
