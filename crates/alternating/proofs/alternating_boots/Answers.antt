use Rattle.alternating.proofs.AlternatingBoots.{alternating_boots}
use Rattle.alternating.proofs.alternating_boots.Goals as goal

pub returns : goal.returns
returns c = alternating_boots c.accepted_systems_are_of_their_images.ensures c.runs_are_lawful.ensures c.turns_are_counted.ensures c.bounds_are_small.ensures
    c.lines_taken_are_few.ensures c.raised_lines_are_few.ensures (c.texts_mean_trees.ensures _ _ _ c.text_is_tree.ensures)
