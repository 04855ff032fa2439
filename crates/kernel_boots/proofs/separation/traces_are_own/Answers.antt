use Rattle.kernel_boots.proofs.TextsChangeNone.{traces_are_own}
use Rattle.kernel_boots.proofs.separation.traces_are_own.Goals as goal

pub returns : goal.returns
returns c = traces_are_own c.units_replay.ensures c.users_are_isolated.ensures c.runs_are_own.ensures c.accepted_systems_are_of_their_images.ensures c.boots_run_their_source.ensures
