use Rattle.kernel_boots.proofs.StatesShown.{runs_its_source}
use Rattle.kernel_boots.proofs.boots_run_their_source.Goals as goal

pub returns : goal.returns
returns c = runs_its_source c.accepted_systems_are_of_their_images.ensures
