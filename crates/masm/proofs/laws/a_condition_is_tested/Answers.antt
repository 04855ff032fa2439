-- A branch over the body.
use Rattle.masm.proofs.LoopsAndRoutines.{when_laws}
use Rattle.masm.proofs.laws.a_condition_is_tested.Goals as goal

pub returns : goal.returns
returns c = when_laws
