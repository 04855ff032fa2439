use Rattle.cvm_outside.proofs.ScriptsTell.{count}
use Rattle.cvm_outside.proofs.script.scripts_count.Goals as goal

pub returns : goal.returns
returns c = count
