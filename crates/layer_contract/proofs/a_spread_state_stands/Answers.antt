-- The state of two users.
use Rattle.layer_contract.proofs.SpreadSystemStands.{a_spread_state_stands}
use Rattle.layer_contract.proofs.a_spread_state_stands.Goals as goal

pub returns : goal.returns
returns c = a_spread_state_stands
