use Rattle.cvm_model.proofs.ShapesAreKept.{runs_are_lawful}
use Rattle.cvm_model.proofs.reasoning.runs_are_lawful.Goals as goal

pub returns : goal.returns
returns c = runs_are_lawful c.units_dont_matter.ensures c.units_are_kernels.ensures c.primitives_alone_change_the_world.ensures
