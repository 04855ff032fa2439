-- By induction on the statements.
use Rattle.c0_stmt_code.proofs.FunctionLengths.{function_same}
use Rattle.c0_stmt_code.proofs.sizes.lengths_are_fixed.Goals as goal

pub returns : goal.returns
returns c = λ sc x y f. function_same sc x y f
