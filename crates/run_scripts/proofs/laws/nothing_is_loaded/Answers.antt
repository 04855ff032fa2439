use Rattle.run_scripts.proofs.CallsOfCommands.{nothing_is_loaded}
use Rattle.run_scripts.proofs.laws.nothing_is_loaded.Goals as goal

pub returns : goal.returns
returns c = nothing_is_loaded
