use Rattle.c0_typed.proofs.NeedsAreFew.{needs_few}
use Rattle.c0_typed.proofs.laws.needs_are_few.Goals as goal

pub returns : goal.returns
returns c = needs_few
