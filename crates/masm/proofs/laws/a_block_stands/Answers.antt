-- By induction on the list; each instruction of a run may run, so it is there.
use Rattle.masm.proofs.BlocksStand.{block_stands}
use Rattle.masm.proofs.laws.a_block_stands.Goals as goal

pub returns : goal.returns
returns c = block_stands c.code_runs_join.ensures
