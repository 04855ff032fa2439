-- A branch behind the test, and one back behind the body.
use Rattle.masm.proofs.LoopsAndRoutines.{loop_laws}
use Rattle.masm.proofs.laws.a_loop_turns.Goals as goal

pub returns : goal.returns
returns c = loop_laws
