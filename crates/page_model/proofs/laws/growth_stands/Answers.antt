-- A share of the zero frame.
use Rattle.page_model.proofs.MachineMoves.{grows}
use Rattle.page_model.proofs.laws.growth_stands.Goals as goal

pub returns : goal.returns
returns c = grows
