use Rattle.run_bounds.proofs.RunBound.{bounds_are_small}
use Rattle.run_bounds.proofs.bounds_are_small.Goals as goal

pub returns : goal.returns
returns c = bounds_are_small c.dispatches_use_pages.ensures
