use Rattle.cvm_outside.proofs.ScriptsFollow.{both, first}
use Rattle.cvm_outside.proofs.script.scripts_follow.Goals as goal

pub returns : goal.returns
returns c = record { both = both; first = first }
