-- By induction on the steps of the code.
use Rattle.mips_table.proofs.FlatSimulates.{flat_follows}
use Rattle.mips_table.proofs.runs.code_runs_on_the_flat_machine.Goals as goal

pub returns : goal.returns
returns c = λ p s n t f q h steps. flat_follows p f n s q h steps.0
