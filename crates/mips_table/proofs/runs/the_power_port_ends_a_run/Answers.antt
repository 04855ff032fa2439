-- By what comes in the step.
use Rattle.mips_table.proofs.RunsBeginAndEnd.{power_ends}
use Rattle.mips_table.proofs.runs.the_power_port_ends_a_run.Goals as goal

pub returns : goal.returns
returns c = λ x p s rt rs imm f q h at e. power_ends x p f s q h rt rs imm at e
