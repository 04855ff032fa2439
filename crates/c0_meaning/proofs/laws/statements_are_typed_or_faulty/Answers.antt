use Rattle.c0_meaning.proofs.AskedTypes.{tested_is_faultless}
use Rattle.c0_meaning.proofs.TypedStatements.{statements_are_faultless}
use Rattle.c0_meaning.proofs.laws.statements_are_typed_or_faulty.Goals as goal

pub returns-clause-statements : goal.returns-clause-statements
returns-clause-statements c = statements_are_faultless

pub returns-clause-tested : goal.returns-clause-tested
returns-clause-tested c = tested_is_faultless
