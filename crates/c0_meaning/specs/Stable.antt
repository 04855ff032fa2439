-- What resolving the names of a unit leaves as it is.
use Rattle.std.specs.Prelude.{◌≡◌, List}
use Rattle.c0_tree.specs.Tree.{CUnit}
use Rattle.c0_tree.specs.Plain.{is_plain}
use Rattle.c0_tree.specs.declared.primitive.Program.{Program}
use Rattle.c0_tree.specs.Primitives.{CPrimitive}
use Rattle.c0_meaning.specs.Limits.{first_faults}
use Rattle.c0_meaning.specs.Unit.{unit_faults, resolved_unit, AreWordsAllowed}

-- a law: a unit with its names resolved has the faults of the unit, and resolving its names again changes nothing
pub record ResolvingIsStable : Type 0 where
  pub faults : (primitives : List CPrimitive) (u : CUnit) → unit_faults primitives (resolved_unit primitives u) ≡ unit_faults primitives u
  pub first : (program : Program) (primitives : List CPrimitive) (u : CUnit) → first_faults program (resolved_unit primitives u) ≡ first_faults program u
  pub again : (primitives : List CPrimitive) (u : CUnit) → resolved_unit primitives (resolved_unit primitives u) ≡ resolved_unit primitives u
  pub plain : (primitives : List CPrimitive) (u : CUnit) → is_plain (resolved_unit primitives u) ≡ is_plain u
  pub words : (primitives : List CPrimitive) (u : CUnit) → AreWordsAllowed u.functions → AreWordsAllowed (resolved_unit primitives u).functions
