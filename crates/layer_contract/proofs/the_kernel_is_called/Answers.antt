-- By the layer's first law.
use Rattle.layer_contract.proofs.FirstCall.{starts_call}
use Rattle.layer_contract.proofs.the_kernel_is_called.Goals as goal

pub returns : goal.returns
returns g c = starts_call _ _ _ c.keeps_laws.ensures.laws
