-- By where the user's pc stands.
use Rattle.layer_contract.proofs.InterruptedUser.{users_are}
use Rattle.layer_contract.proofs.users_are_interrupted.Goals as goal

pub returns : goal.returns
returns c = users_are
