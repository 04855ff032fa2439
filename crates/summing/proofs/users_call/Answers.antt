use Rattle.summing.proofs.UsersCall.{users_call}
use Rattle.summing.proofs.users_call.Goals as goal

pub returns : goal.returns
returns c = users_call
