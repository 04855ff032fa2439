-- The state after the reset.
use Rattle.layer_contract.proofs.RelationExists.{a_state_stands}
use Rattle.layer_contract.proofs.a_state_stands.Goals as goal

pub returns : goal.returns
returns c = a_state_stands
