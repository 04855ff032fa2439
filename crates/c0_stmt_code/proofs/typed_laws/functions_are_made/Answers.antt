-- Body by body.
use Rattle.c0_stmt_code.proofs.FunctionsAreMade.{function_made}
use Rattle.c0_stmt_code.proofs.TypedCanBeEmitted.{can_be_emitted}
use Rattle.c0_stmt_code.proofs.typed_laws.functions_are_made.Goals as goal

pub returns : goal.returns
returns c = record {
  codes = function_made c.statements_are_made.ensures c.nodes_are_made.ensures c.names_are_enough.ensures c.numbers_tell.ensures c.units_are_typed_or_faulty.ensures;
  emittable = can_be_emitted c.functions_are_emittable.ensures c.needs_are_few.ensures c.numbers_tell.ensures c.units_are_typed_or_faulty.ensures;
}
