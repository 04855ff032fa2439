use Rattle.kernel_boots.proofs.TextsChangeNone.{texts_change_none}
use Rattle.kernel_boots.proofs.separation.texts_change_none.Goals as goal

pub returns : goal.returns
returns c = texts_change_none c.texts_mean_trees.ensures c.readers_change_none.ensures
