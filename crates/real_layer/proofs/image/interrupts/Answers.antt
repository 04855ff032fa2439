use Rattle.std.proofs.Common.{rules}
use Rattle.real_layer.specs.Image.{interrupt_code}
use Rattle.real_layer.proofs.image.interrupts.Goals as goal

pub returns : goal.returns
unfolding interrupt_code
returns c = search rules
