use Rattle.user_c0.proofs.UserTraps.{programs_trap}
use Rattle.user_c0.proofs.users.programs_trap.Goals as goal

pub returns : goal.returns
returns c = programs_trap c.images_run.ensures c.users_go_on.ensures c.answers_ahead_dont_matter.ensures
