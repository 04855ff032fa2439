use Rattle.cvm_shell.proofs.MachinesReplay.{equal_journals}
use Rattle.cvm_shell.proofs.laws.equal_journals_tell_the_same.Goals as goal

pub returns : goal.returns
returns c = equal_journals
