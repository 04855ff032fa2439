use Rattle.user_c0.proofs.UserSteps.{ints_told}
use Rattle.user_c0.proofs.users.ints_are_told.Goals as goal

pub returns : goal.returns
returns c = ints_told
