-- The run is computed.
use Rattle.std.proofs.Common.{refl}
use Rattle.mips_table.specs.Machine.{step}
use Rattle.mips_table.proofs.runs.the_console_answers.Goals as goal

pub returns : goal.returns
unfolding step
returns c = record { log = refl; length = refl; taken = refl; left = refl; input = refl; illegal = refl; word = refl }
