use Rattle.cvm_outside.proofs.ScriptsTell.{tell}
use Rattle.cvm_outside.proofs.script.scripts_tell.Goals as goal

pub returns : goal.returns
returns c = tell
