-- The first step.
use Rattle.layer_contract.proofs.LoadedTakesReset.{loaded_resets}
use Rattle.layer_contract.proofs.the_loaded_machine_resets.Goals as goal

pub returns : goal.returns
returns c = loaded_resets
