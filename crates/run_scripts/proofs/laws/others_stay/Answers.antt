use Rattle.run_scripts.proofs.CallsOfCommands.{others_stay}
use Rattle.run_scripts.proofs.laws.others_stay.Goals as goal

pub returns : goal.returns
returns c = others_stay
