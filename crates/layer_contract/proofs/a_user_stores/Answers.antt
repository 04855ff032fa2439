-- The state of the example.
use Rattle.layer_contract.proofs.SampleOverwritesItself.{some_stores}
use Rattle.layer_contract.proofs.a_user_stores.Goals as goal

pub returns : goal.returns
returns c = some_stores
