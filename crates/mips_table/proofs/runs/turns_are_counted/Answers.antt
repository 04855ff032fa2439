-- The counts of turns.
use Rattle.mips_table.proofs.FoldCountsTurns.{turn_laws}
use Rattle.mips_table.proofs.runs.turns_are_counted.Goals as goal

pub returns : goal.returns
returns c = turn_laws
