use Rattle.kernel_theorems.proofs.GuardedTexts.{is_text}
use Rattle.kernel_theorems.proofs.guarded.text_is_guarded.Goals as goal

pub returns : goal.returns
returns c = is_text
