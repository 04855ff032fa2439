use Rattle.c0_types.proofs.TypedSources.{sources_are_faultless}
use Rattle.c0_types.proofs.laws.sources_are_typed_or_faulty.Goals as goal

pub returns : goal.returns
returns c = sources_are_faultless c.programs_are_typed_or_faulty.ensures
