-- The nodes so far and those of the arguments that are left are those of all, up to the greatest number.
use Rattle.std.proofs.Common.{◌≡◌, ◌≤◌, ◌+◌, min, map, drop}
use Rattle.c0_tree.specs.Size.{args_nodes}
use Rattle.c0_tree.specs.View.{expr_view}
use Rattle.c0_meaning.proofs.nodes.all_nodes.Given as goal

abbrev pub invariant-loop-e : goal.invariant-loop-e
invariant-loop-e l = record {
  value : min (l.count + args_nodes (map expr_view (drop l.e-index l.args))) 4294967295 ≡ min (args_nodes (map expr_view l.args)) 4294967295;
  small : l.count ≤ 4294967295;
}
