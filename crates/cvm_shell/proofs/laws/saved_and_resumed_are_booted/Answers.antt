use Rattle.cvm_shell.proofs.SavedAndResumed.{saved_and_resumed}
use Rattle.cvm_shell.proofs.laws.saved_and_resumed_are_booted.Goals as goal

pub returns : goal.returns
returns c = saved_and_resumed
