-- The trees are those of the unit's functions.
use Rattle.c0_unit.proofs.TreesOfFunctions.{tree_at}
use Rattle.c0_unit.proofs.typed.TypedUnit.function.Goals as goal

pub returns : goal.returns
returns c = tree_at c.self.inside.unit.now c.args.self.now c.self.view_is c.self.inside.functions.items c.self.invariant c.args.number c.index.result.now c.index.ensures
