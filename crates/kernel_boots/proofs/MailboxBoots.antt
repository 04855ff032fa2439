-- Each boot of the mailbox: in each state of its run what was got is what was put.
use Rattle.std.proofs.Common.{◌≡◌, length, arith}
use Rattle.cvm_model.specs.Invariant.{dispatches_of, RunsAreLawful}
use Rattle.kernel_linker.specs.Sources.{AcceptedAreOfImages}
use Rattle.run_scripts.specs.Boot.{booted}
use Rattle.kernel_theorems.specs.Text.{Means}
use Rattle.kernel_theorems.specs.MailboxTree.{mailbox}
use Rattle.kernel_theorems.specs.Mailbox.{text, IsDelivered, MessagesAreDelivered}
use Rattle.kernel_boots.specs.Mailboxes.{MailboxesBoot}
use Rattle.kernel_boots.proofs.StatesShown.{boots_of}

pub mailboxes_boot : AcceptedAreOfImages → RunsAreLawful → MessagesAreDelivered → Means text mailbox → MailboxesBoot
mailboxes_boot images laws law means = boots_of images laws text (λ s. length s.users ≡ 2) (λ y lines k c. IsDelivered (dispatches_of y lines 400 k) c)
    (λ s rows unit roomy is few lines eight k c h.
    (law (booted s rows) (record { meaning_is = means s.unit s.params unit; two = is; fit = record { users = roomy.users; input = few }; room = omega (arith, roomy.stack) }) lines eight k).1 c h)
    (λ y lines k c h. h.safe)
