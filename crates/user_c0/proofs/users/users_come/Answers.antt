use Rattle.user_c0.proofs.UserComes.{users_come}
use Rattle.user_c0.proofs.users.users_come.Goals as goal

pub returns : goal.returns
returns c = users_come c.users_are_isolated.ensures
