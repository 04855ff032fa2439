-- None so far calls, and those that are left are to be asked.
use Rattle.std.proofs.Common.{◌≡◌, drop}
use Rattle.std.specs.Prelude.{◌&&◌}
use Rattle.c0_tree.specs.View.{stmts_view}
use Rattle.c0_typed.specs.Leaf as spec
use Rattle.c0_typed.proofs.leaf.+leaf.Given as goal

abbrev pub invariant-are_free_of_calls-loop-stmt : goal.invariant-are_free_of_calls-loop-stmt
invariant-are_free_of_calls-loop-stmt l = (l.free && spec.are_free_of_calls (stmts_view (drop l.stmt-index l.stmts))) ≡ spec.are_free_of_calls (stmts_view l.stmts)
