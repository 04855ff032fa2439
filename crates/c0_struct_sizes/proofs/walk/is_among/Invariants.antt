use Rattle.std.proofs.Common.{◌↔◌, drop}
use Rattle.c0_struct_sizes.specs.Graph.{IsIn}
use Rattle.c0_struct_sizes.proofs.walk.is_among.Given as goal

abbrev pub invariant-loop-node : goal.invariant-loop-node
invariant-loop-node l = IsIn (drop l.node-index l.nodes) l.number ↔ IsIn l.nodes l.number
