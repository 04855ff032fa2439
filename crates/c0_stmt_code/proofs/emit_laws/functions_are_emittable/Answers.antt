-- By the judgement by numbers.
use Rattle.c0_stmt_code.proofs.TypedIsEmittable.{function_emittable}
use Rattle.c0_stmt_code.proofs.emit_laws.functions_are_emittable.Goals as goal

pub returns : goal.returns
returns c = function_emittable c.numbers_tell.ensures c.units_are_typed_or_faulty.ensures
