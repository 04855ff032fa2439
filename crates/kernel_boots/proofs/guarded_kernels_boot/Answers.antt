use Rattle.kernel_boots.proofs.GuardedBoots.{guarded_kernels_boot}
use Rattle.kernel_boots.proofs.guarded_kernels_boot.Goals as goal

pub returns : goal.returns
returns c = guarded_kernels_boot c.accepted_systems_are_of_their_images.ensures c.runs_are_lawful.ensures c.guarded_never_faults.ensures (c.texts_mean_trees.ensures _ _ _ c.text_is_guarded.ensures)
