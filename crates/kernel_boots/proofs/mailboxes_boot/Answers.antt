use Rattle.kernel_boots.proofs.MailboxBoots.{mailboxes_boot}
use Rattle.kernel_boots.proofs.mailboxes_boot.Goals as goal

pub returns : goal.returns
returns c = mailboxes_boot c.accepted_systems_are_of_their_images.ensures c.runs_are_lawful.ensures c.messages_are_delivered.ensures (c.texts_mean_trees.ensures _ _ _ c.text_is_mailbox.ensures)
