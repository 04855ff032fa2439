use Rattle.kernel_boots.proofs.RoundRobins.{round_robins_boot}
use Rattle.kernel_boots.proofs.round_robins_boot.Goals as goal

pub returns : goal.returns
returns c = round_robins_boot c.accepted_systems_are_of_their_images.ensures c.runs_are_lawful.ensures c.round_robin_is_fair.ensures (c.texts_mean_trees.ensures _ _ _ c.text_is_round_robin.ensures)
