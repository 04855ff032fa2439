-- The trees of the functions so far.
use Rattle.std.proofs.Common.{◌≡◌, map, take}
use Rattle.c0_tree.specs.View.{unit_view}
use Rattle.c0_typed.specs.Typed.{typed_of_function}
use Rattle.c0_typed.specs.View.{typed_function_view}
use Rattle.c0_typed.proofs.unit.typed_unit.Given as goal

abbrev pub invariant-loop-number : goal.invariant-loop-number
invariant-loop-number l =
    map typed_function_view l.all.items ≡ map (typed_of_function (unit_view l.unit)) (take l.number (unit_view l.unit).functions)
