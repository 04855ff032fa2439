use Rattle.run_bounds.proofs.RunBound.{dispatches_use_pages}
use Rattle.run_bounds.proofs.dispatches_use_pages.Goals as goal

pub returns : goal.returns
returns c = dispatches_use_pages c.runs_stay_within_their_units.ensures c.primitives_alone_change_the_world.ensures
