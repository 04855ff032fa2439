use Rattle.program_systems.proofs.AddersCall.{adders_call}
use Rattle.program_systems.proofs.adders_call.Goals as goal

pub returns : goal.returns
returns c = adders_call
