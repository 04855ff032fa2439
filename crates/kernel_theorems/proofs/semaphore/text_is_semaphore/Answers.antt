use Rattle.kernel_theorems.proofs.SemaphoreTexts.{is_text}
use Rattle.kernel_theorems.proofs.semaphore.text_is_semaphore.Goals as goal

pub returns : goal.returns
returns c = is_text
