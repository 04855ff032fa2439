use Rattle.kernel_linker.proofs.AcceptedUnits.{accepted_are_of_images}
use Rattle.kernel_linker.proofs.laws.accepted_systems_are_of_their_images.Goals as goal

pub returns : goal.returns
returns c = accepted_are_of_images
