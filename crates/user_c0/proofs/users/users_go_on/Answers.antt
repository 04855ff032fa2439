use Rattle.user_c0.proofs.UserSteps.{go_on}
use Rattle.user_c0.proofs.users.users_go_on.Goals as goal

pub returns : goal.returns
returns c = go_on c.replays_join.ensures
