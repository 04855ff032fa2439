use Rattle.cvm_outside.proofs.ScriptsFollow.{broken_at}
use Rattle.cvm_outside.proofs.script.scripts_break.Goals as goal

pub returns : goal.returns
returns c = broken_at
