use Rattle.c0_meaning.proofs.TypesHaveWords.{zeros_fit_types}
use Rattle.c0_meaning.proofs.run_laws.zeros_fit_their_types.Goals as goal

pub returns : goal.returns
returns c = zeros_fit_types
