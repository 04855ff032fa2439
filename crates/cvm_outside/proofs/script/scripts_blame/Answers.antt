use Rattle.cvm_outside.proofs.WhoseFaultsRise.{blame_one}
use Rattle.cvm_outside.proofs.script.scripts_blame.Goals as goal

pub returns : goal.returns
returns c = blame_one
