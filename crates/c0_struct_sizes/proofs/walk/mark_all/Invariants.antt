use Rattle.std.proofs.Common.{◌≡◌, drop}
use Rattle.c0_struct_sizes.specs.Walk.{set_all}
use Rattle.c0_struct_sizes.specs.declared.walk.Mark.TheVariants.{Done}
use Rattle.c0_struct_sizes.proofs.walk.mark_all.Given as goal

abbrev pub invariant-loop-node : goal.invariant-loop-node
invariant-loop-node l = record {
  marks : set_all l.marks (drop l.node-index l.nodes) Done ≡ set_all l.initial.marks l.nodes Done;
  turning : set_all l.turning (drop l.node-index l.nodes) l.turns ≡ set_all l.initial.turning l.nodes l.turns;
}
