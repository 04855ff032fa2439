-- The nodes so far and those of the statements that are left are those of all, up to the greatest number.
use Rattle.std.proofs.Common.{◌≡◌, ◌≤◌, ◌+◌, min, drop}
use Rattle.c0_tree.specs.Size.{stmts_nodes}
use Rattle.c0_tree.specs.View.{stmts_view}
use Rattle.c0_meaning.proofs.nodes.+nodes.Given as goal

abbrev pub invariant-stmts_nodes_of-loop-s : goal.invariant-stmts_nodes_of-loop-s
invariant-stmts_nodes_of-loop-s l = record {
  value : min (l.count + stmts_nodes (stmts_view (drop l.s-index l.stmts))) 4294967295 ≡ min (stmts_nodes (stmts_view l.stmts)) 4294967295;
  small : l.count ≤ 4294967295;
}
