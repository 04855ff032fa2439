use Rattle.std.proofs.Common.{◌≡◌, map, take, length}
use Rattle.c0_name_check.specs.Names.{look}
use Rattle.c0_struct_sizes.specs.Parts.{AreWordsAmong}
use Rattle.c0_tree.specs.View.{struct_view}
use Rattle.c0_struct_sizes.proofs.fields.words_in_order.Given as goal

abbrev pub invariant-loop-node : goal.invariant-loop-node
invariant-loop-node l = record {
  all : length l.sizes.items ≡ length l.structs;
  right : AreWordsAmong (look l.names) (map struct_view l.structs) (take l.node-index l.nodes) l.sizes.items;
}
