use Rattle.cvm_outside.proofs.ScriptsTell.{count_files}
use Rattle.cvm_outside.proofs.script.scripts_count_files.Goals as goal

pub returns : goal.returns
returns c = count_files
