-- By induction on what the loop may still spend.
use Rattle.masm.proofs.LoopsPay.{loop_pays}
use Rattle.masm.proofs.laws.a_loop_pays.Goals as goal

pub returns : goal.returns
returns c s w = loop_pays w (c.T.Turns.before w) (c.T.Turns.tested w) (c.T.Turns.ends w)
