-- By the concrete machines.
use Rattle.mips_table.proofs.SampleRuns.{on_machine_met, on_flat_met, raises}
use Rattle.mips_table.proofs.runs.the_premises_are_met.Goals as goal

pub returns-clause-machine : goal.returns-clause-machine
returns-clause-machine c = on_machine_met

pub returns-clause-flat : goal.returns-clause-flat
returns-clause-flat c = on_flat_met

pub returns-clause-raises : goal.returns-clause-raises
returns-clause-raises c = raises
