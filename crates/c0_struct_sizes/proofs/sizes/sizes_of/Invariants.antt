use Rattle.std.proofs.Common.{◌≡◌, ◌++◌, map, drop}
use Rattle.c0_name_check.specs.Names.{look}
use Rattle.c0_name_check.specs.Structs.{listed_words}
use Rattle.c0_struct_sizes.specs.Parts.{listed_turning}
use Rattle.c0_tree.specs.View.{struct_view}
use Rattle.c0_struct_sizes.proofs.sizes.sizes_of.Given as goal

abbrev pub invariant-loop-def : goal.invariant-loop-def
invariant-loop-def l = record {
  words :
      l.words.items ++ map (λ x. listed_words l.found (look l.names x.name.text)) (map struct_view (drop l.def-index l.structs))
      ≡ map (λ x. listed_words l.found (look l.names x.name.text)) (map struct_view l.structs);
  held :
      l.holds_itself.items ++ map (λ x. listed_turning l.turning (look l.names x.name.text)) (map struct_view (drop l.def-index l.structs))
      ≡ map (λ x. listed_turning l.turning (look l.names x.name.text)) (map struct_view l.structs);
}
