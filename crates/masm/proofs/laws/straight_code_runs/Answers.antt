-- One step lemma over the effect, and induction on the list.
use Rattle.masm.proofs.StraightBlocks.{straight_code}
use Rattle.masm.proofs.laws.straight_code_runs.Goals as goal

pub returns : goal.returns
returns c = straight_code
