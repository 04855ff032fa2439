use Rattle.c0_meaning.proofs.TypeEquality.{equal_as_written}
use Rattle.c0_meaning.proofs.laws.types_are_equal_as_written.Goals as goal

pub returns : goal.returns
returns c = equal_as_written
