-- The reset.
use Rattle.layer_contract.proofs.ResetStandsForStart.{reset_stands}
use Rattle.layer_contract.proofs.the_reset_stands.Goals as goal

pub returns : goal.returns
returns c = reset_stands
