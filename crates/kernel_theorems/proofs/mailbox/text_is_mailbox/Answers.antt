use Rattle.kernel_theorems.proofs.MailboxTexts.{is_text}
use Rattle.kernel_theorems.proofs.mailbox.text_is_mailbox.Goals as goal

pub returns : goal.returns
returns c = is_text
