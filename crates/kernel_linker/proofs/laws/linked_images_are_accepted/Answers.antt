use Rattle.kernel_linker.proofs.LinkedAccepted.{linked_accepted}
use Rattle.kernel_linker.proofs.laws.linked_images_are_accepted.Goals as goal

pub returns : goal.returns
returns c = linked_accepted
