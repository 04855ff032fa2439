use Rattle.user_c0.proofs.UserTraps.{traps_are_known}
use Rattle.user_c0.proofs.users.traps_are_known.Goals as goal

pub returns : goal.returns
returns c = traps_are_known c.images_run.ensures c.replays_join.ensures c.programs_trap.ensures c.arguments_stay.ensures
