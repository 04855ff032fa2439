use Rattle.c0_meaning.proofs.ServingRules.{made_is_asked}
use Rattle.c0_meaning.proofs.program_laws.what_is_made_is_asked.Goals as goal

pub returns : goal.returns
returns c = made_is_asked
