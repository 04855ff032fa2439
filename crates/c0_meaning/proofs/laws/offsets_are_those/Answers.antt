use Rattle.c0_meaning.proofs.OffsetsAddUp.{offsets_are_those}
use Rattle.c0_meaning.proofs.laws.offsets_are_those.Goals as goal

pub returns : goal.returns
returns c = offsets_are_those
