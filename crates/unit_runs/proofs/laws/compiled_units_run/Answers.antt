-- By the laws that the body calls.
use Rattle.unit_runs.proofs.CompiledStands.{compiled}
use Rattle.unit_runs.proofs.laws.compiled_units_run.Goals as goal

pub returns : goal.returns
returns c = compiled c.units_have_addresses.ensures c.units_stand.ensures c.units_run_over_layers.ensures
