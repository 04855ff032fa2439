use Rattle.c0_expr_code.proofs.NodesAreMade.{nodes_made}
use Rattle.c0_expr_code.proofs.node_laws.nodes_are_made.Goals as goal

pub returns : goal.returns
returns c = nodes_made c.variables_are_those.ensures c.fields_are_those.ensures c.elements_are_those.ensures
