use Rattle.cvm_model.proofs.SystemsHold.{runs_are_chains}
use Rattle.cvm_model.proofs.reasoning.runs_are_chains.Goals as goal

pub returns : goal.returns
returns c = runs_are_chains c.runs_are_lawful.ensures
