use Rattle.c0_tree.specs.declared.primitive.Program.TheVariants.{Kernel}
use Rattle.c0_meaning.proofs.RunsHaveAFirst.{has_first}
use Rattle.c0_meaning.proofs.run_laws.kernels_have_a_dispatch.Goals as goal

pub returns : goal.returns
returns c = has_first Kernel
