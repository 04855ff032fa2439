use Rattle.c0_meaning.proofs.StructHolding.{holds_as_tested}
use Rattle.c0_meaning.proofs.laws.holding_is_as_tested.Goals as goal

pub returns : goal.returns
returns c = holds_as_tested
