use Rattle.c0_expr_code.proofs.JudgedByVariables.{typed}
use Rattle.c0_expr_code.proofs.laws.names_are_enough.Goals as goal

pub returns : goal.returns
returns c = typed
