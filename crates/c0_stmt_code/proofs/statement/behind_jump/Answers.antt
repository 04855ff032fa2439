-- Another branch that has a statement begins behind the jump over it.
use Rattle.std.proofs.Common.{◌<◌, length, arith}
use Rattle.c0_stmt_code.proofs.TestsGetDistances.{otherwise_some}
use Rattle.c0_stmt_code.proofs.statement.behind_jump.Goals as goal

pub overflow_add-result : goal.overflow_add-result
overflow_add-result c =
    let some : 0 < length c.args.no.now = grind arith in
    omega (arith, otherwise_some c.args.no.now some)

pub returns-else-is_empty : goal.returns-else-is_empty
returns-else-is_empty c =
    let some : 0 < length c.args.no.now = grind arith in
    omega (arith, otherwise_some c.args.no.now some)
