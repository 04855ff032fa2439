-- By induction on the number of the later steps.
use Rattle.mips_table.proofs.RunsJoin.{run_sum}
use Rattle.mips_table.proofs.runs.runs_join.Goals as goal

pub returns : goal.returns
returns c = run_sum
