-- By the laws that the body calls.
use Rattle.masm.proofs.WordsCopied.{copy_runs}
use Rattle.masm.proofs.copying.words_are_copied.Goals as goal

pub returns : goal.returns
returns c w f = copy_runs w f (c.straight_code_runs.ensures w f) c.runs_compose.ensures (c.a_loop_pays.ensures w f)
