use Rattle.c0_tree.specs.Primitives.{primitives_of}
use Rattle.c0_meaning.specs.Limits.{first_faults}
use Rattle.c0_meaning.specs.Unit.{unit_faults}
use Rattle.c0_meaning.proofs.WellFormed.{none_in_left, none_in_right}
use Rattle.c0_meaning.proofs.laws.faultless_units_are_checked.Goals as goal

pub returns : goal.returns
returns c = λ program u plain typed resolved allowed. record {
  well_formed = record { plain = plain; typed = none_in_left (unit_faults (primitives_of program) u) (first_faults program u) typed; resolved = resolved; allowed = allowed };
  first = none_in_right (unit_faults (primitives_of program) u) (first_faults program u) typed;
}
