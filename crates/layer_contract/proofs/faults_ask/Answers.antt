-- By where the step's addresses stand.
use Rattle.layer_contract.proofs.PageAskedFor.{asks_page}
use Rattle.layer_contract.proofs.faults_ask.Goals as goal

pub returns : goal.returns
returns c = asks_page
