use Rattle.cvm_model.proofs.KernelTyped.{rows_are_called}
use Rattle.cvm_model.proofs.rows_are_called.Goals as goal

pub returns : goal.returns
returns c = rows_are_called
