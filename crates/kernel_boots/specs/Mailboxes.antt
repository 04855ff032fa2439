-- What each boot of the mailbox shows.
use Rattle.std.specs.Prelude.{◌≡◌, length}
use Rattle.cvm_model.specs.Invariant.{dispatches_of}
use Rattle.kernel_theorems.specs.Mailbox.{text, IsDelivered}
use Rattle.kernel_boots.specs.Boots.{BootsOf}

-- EACH BOOT of an image with this text, of two users: its status is no kernel's fault, and what it printed is the text of a state whose rows are those of
-- its run's dispatches, in which what user 2 was given is what user 1 was told to be taken
abbrev pub MailboxesBoot : Type 0
MailboxesBoot = BootsOf text (λ s. length s.users ≡ 2) (λ y lines k c. IsDelivered (dispatches_of y lines 400 k) c)
