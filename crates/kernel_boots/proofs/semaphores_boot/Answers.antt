use Rattle.kernel_boots.proofs.SemaphoreBoots.{semaphores_boot}
use Rattle.kernel_boots.proofs.semaphores_boot.Goals as goal

pub returns : goal.returns
returns c = semaphores_boot c.accepted_systems_are_of_their_images.ensures c.runs_are_lawful.ensures c.at_most_one_is_inside.ensures (c.texts_mean_trees.ensures _ _ _ c.text_is_semaphore.ensures)
