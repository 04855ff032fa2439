-- By two inductions on the steps.
use Rattle.layer_contract.proofs.LayerTakesOver.{starts_go_on}
use Rattle.layer_contract.proofs.starts_go_on.Goals as goal

pub returns : goal.returns
returns c = starts_go_on
