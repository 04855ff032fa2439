use Rattle.std.proofs.Common.{map}
use Rattle.c0_struct_sizes.specs.Graph.{edges_in}
use Rattle.c0_struct_sizes.specs.Walk.{walk_state, IsWalkOver, work}
use Rattle.c0_struct_sizes.proofs.walk.order_of.Given as goal

abbrev pub invariant-loop-walk : goal.invariant-loop-walk
invariant-loop-walk l = IsWalkOver (map (λ x. x.items) l.graph) (walk_state l.walk)

abbrev pub decreases-loop-walk : goal.decreases-loop-walk
decreases-loop-walk l = work (edges_in (map (λ x. x.items) l.graph)) (walk_state l.walk)
