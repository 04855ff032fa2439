-- By the law of the code of expressions.
use Rattle.c0_stmt_code.proofs.StatementsAreMade.{statements_made}
use Rattle.c0_stmt_code.proofs.typed_laws.statements_are_made.Goals as goal

pub returns : goal.returns
returns c = statements_made c.nodes_are_made.ensures c.names_are_enough.ensures
