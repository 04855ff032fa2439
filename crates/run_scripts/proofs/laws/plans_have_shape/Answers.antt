use Rattle.run_scripts.proofs.CallsOfCommands.{plans_have_shape}
use Rattle.run_scripts.proofs.laws.plans_have_shape.Goals as goal

pub returns : goal.returns
returns c = plans_have_shape
