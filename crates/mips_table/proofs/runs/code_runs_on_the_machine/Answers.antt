-- By induction on the steps of the code.
use Rattle.mips_table.proofs.MachineSimulates.{follows}
use Rattle.mips_table.proofs.runs.code_runs_on_the_machine.Goals as goal

pub returns : goal.returns
returns c = λ x p s n t f q h v steps. follows x p f n s q h v steps.0
