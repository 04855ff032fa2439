use Rattle.kernel_theorems.proofs.RoundRobinTexts.{is_text}
use Rattle.kernel_theorems.proofs.round_robin.text_is_round_robin.Goals as goal

pub returns : goal.returns
returns c = is_text
