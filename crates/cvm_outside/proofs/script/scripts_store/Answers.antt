use Rattle.cvm_outside.proofs.WhoseFaultsRise.{store}
use Rattle.cvm_outside.proofs.script.scripts_store.Goals as goal

pub returns : goal.returns
returns c = store
