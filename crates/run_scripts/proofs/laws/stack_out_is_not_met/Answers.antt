use Rattle.run_scripts.proofs.PlansAreAsked.{stack_out_is_not_met}
use Rattle.run_scripts.proofs.laws.stack_out_is_not_met.Goals as goal

pub returns : goal.returns
returns c = stack_out_is_not_met
