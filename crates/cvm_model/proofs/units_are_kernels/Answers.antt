-- The laws of C0's runs, at the kernel's world.
use Rattle.cvm_model.proofs.KernelLaws.{units_are_kernels}
use Rattle.cvm_model.proofs.units_are_kernels.Goals as goal

pub returns : goal.returns
returns c = units_are_kernels c.more_units_change_nothing.ensures c.more_units_extend_the_calls.ensures
