use Rattle.c0_meaning.proofs.PartsApart.{parts_are_apart}
use Rattle.c0_meaning.proofs.run_laws.parts_of_a_type_are_apart.Goals as goal

pub returns : goal.returns
returns c = parts_are_apart
