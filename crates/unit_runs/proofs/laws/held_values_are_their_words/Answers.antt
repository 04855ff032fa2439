-- By the values, over the two regions.
use Rattle.unit_runs.proofs.RegionsHeldByWords.{held_is_flat}
use Rattle.unit_runs.proofs.laws.held_values_are_their_words.Goals as goal

pub returns : goal.returns
returns c = held_is_flat
