-- By the lengths of the parts.
use Rattle.c0_stmt_code.proofs.FunctionLengths.{function_short}
use Rattle.c0_stmt_code.proofs.PremisesOfFunctions.{lengths_fit}
use Rattle.c0_stmt_code.proofs.sizes.functions_are_short.Goals as goal

pub returns : goal.returns
returns c = λ sc x f. function_short sc x (lengths_fit c.codes_are_short.ensures sc) f
