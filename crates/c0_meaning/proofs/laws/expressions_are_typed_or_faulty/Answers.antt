use Rattle.c0_meaning.proofs.TypedIsFaultless.{typed_is_faultless, has_one_type}
use Rattle.c0_meaning.proofs.FaultlessIsTyped.{faultless_is_typed}
use Rattle.c0_meaning.proofs.laws.expressions_are_typed_or_faulty.Goals as goal

pub returns-clause-typed : goal.returns-clause-typed
returns-clause-typed c = typed_is_faultless

pub returns-clause-faultless : goal.returns-clause-faultless
returns-clause-faultless c = faultless_is_typed

pub returns-clause-unique : goal.returns-clause-unique
returns-clause-unique c = has_one_type
