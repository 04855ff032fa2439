-- A jump behind the body.
use Rattle.masm.proofs.LoopsAndRoutines.{returning}
use Rattle.masm.proofs.laws.a_routine_returns.Goals as goal

pub returns : goal.returns
returns c = returning
