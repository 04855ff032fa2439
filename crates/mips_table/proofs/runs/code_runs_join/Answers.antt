-- By induction on the number of the first steps.
use Rattle.mips_table.proofs.RunsJoin.{run_laws}
use Rattle.mips_table.proofs.runs.code_runs_join.Goals as goal

pub returns : goal.returns
returns c = run_laws
