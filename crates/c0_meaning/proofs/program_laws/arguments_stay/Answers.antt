use Rattle.c0_meaning.proofs.MoreSeen.{arguments_stay}
use Rattle.c0_meaning.proofs.program_laws.arguments_stay.Goals as goal

pub returns : goal.returns
returns c = arguments_stay
