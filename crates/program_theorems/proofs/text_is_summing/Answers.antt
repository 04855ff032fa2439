use Rattle.program_theorems.proofs.SummingTexts.{is_text}
use Rattle.program_theorems.proofs.text_is_summing.Goals as goal

pub returns : goal.returns
returns c = is_text
