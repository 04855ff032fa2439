use Rattle.c0_meaning.proofs.SafePrograms.{programs_are_safe}
use Rattle.c0_meaning.proofs.run_laws.programs_are_safe.Goals as goal

pub returns : goal.returns
returns c = programs_are_safe
