use Rattle.run_scripts.proofs.CallsOfCommands.{gets_come_first}
use Rattle.run_scripts.proofs.laws.gets_come_first.Goals as goal

pub returns : goal.returns
returns c = gets_come_first
