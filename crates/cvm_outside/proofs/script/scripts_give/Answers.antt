use Rattle.cvm_outside.proofs.ScriptsFollow.{given}
use Rattle.cvm_outside.proofs.script.scripts_give.Goals as goal

pub returns : goal.returns
returns c = given
