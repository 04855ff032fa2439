use Rattle.cvm_shell.proofs.NeverOutPrintsNone.{not_met}
use Rattle.cvm_shell.proofs.laws.stack_out_is_not_printed.Goals as goal

pub returns : goal.returns
returns c = not_met
