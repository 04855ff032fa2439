use Rattle.kernel_theorems.proofs.MessagesDelivered.{messages_are_delivered}
use Rattle.kernel_theorems.proofs.mailbox.messages_are_delivered.Goals as goal

pub returns : goal.returns
returns c = messages_are_delivered c.sets_are_found.ensures c.runs_are_lawful.ensures
