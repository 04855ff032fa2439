use Rattle.user_c0.proofs.UserTraps.{programs_stay}
use Rattle.user_c0.proofs.users.programs_stay.Goals as goal

pub returns : goal.returns
returns c = programs_stay c.images_run.ensures c.users_go_on.ensures
