use Rattle.kernel_linker.proofs.LinkedAccepted.{opened_unit}
use Rattle.kernel_linker.proofs.laws.opened_units_are_their_sources.Goals as goal

pub returns : goal.returns
returns c = opened_unit
