use Rattle.c0_meaning.proofs.TypedPrograms.{programs_are_faultless}
use Rattle.c0_meaning.proofs.laws.programs_are_typed_or_faulty.Goals as goal

pub returns : goal.returns
returns c = programs_are_faultless
