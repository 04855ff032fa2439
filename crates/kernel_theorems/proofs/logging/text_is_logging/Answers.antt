use Rattle.kernel_theorems.proofs.LoggingTexts.{is_text}
use Rattle.kernel_theorems.proofs.logging.text_is_logging.Goals as goal

pub returns : goal.returns
returns c = is_text
