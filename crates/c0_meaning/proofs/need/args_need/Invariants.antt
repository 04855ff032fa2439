-- The greater of the need so far and that of the arguments that are left is that of all, up to the cap.
use Rattle.std.proofs.Common.{◌≡◌, ◌<◌, map, max, min, drop}
use Rattle.c0_tree.specs.Size as size
use Rattle.c0_tree.specs.View.{expr_view}
use Rattle.c0_meaning.proofs.need.args_need.Given as goal

abbrev pub invariant-loop-arg : goal.invariant-loop-arg
invariant-loop-arg l =
    (min (max l.greatest (size.args_need (map expr_view (drop l.arg-index l.args)))) 13 ≡ min (size.args_need (map expr_view l.args)) 13) × (l.greatest < 14)
