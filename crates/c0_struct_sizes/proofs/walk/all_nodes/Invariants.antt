use Rattle.std.proofs.Common.{◌≡◌}
use Rattle.c0_struct_sizes.specs.Walk.{numbers_below}
use Rattle.c0_struct_sizes.proofs.walk.all_nodes.Given as goal

abbrev pub invariant-loop-number : goal.invariant-loop-number
invariant-loop-number l = l.nodes.items ≡ numbers_below l.number
