-- One so far calls something, or one that is left does, exactly where one of all does.
use Rattle.std.proofs.Common.{◌≡◌, drop}
use Rattle.std.specs.Prelude.{◌||◌}
use Rattle.c0_tree.specs.View.{stmts_view}
use Rattle.c0_typed.specs.Leaf as spec
use Rattle.c0_typed.proofs.leaf.+calling.Given as goal

abbrev pub invariant-are_calling-loop-stmt : goal.invariant-are_calling-loop-stmt
invariant-are_calling-loop-stmt l = (l.calling || spec.are_calling (stmts_view (drop l.stmt-index l.stmts))) ≡ spec.are_calling (stmts_view l.stmts)
