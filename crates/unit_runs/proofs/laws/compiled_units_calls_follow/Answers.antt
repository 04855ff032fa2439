-- By the laws that the body calls.
use Rattle.unit_runs.proofs.CompiledStands.{compiled_calls}
use Rattle.unit_runs.proofs.laws.compiled_units_calls_follow.Goals as goal

pub returns : goal.returns
returns c = compiled_calls c.units_have_addresses.ensures c.units_stand.ensures c.units_calls_follow.ensures
