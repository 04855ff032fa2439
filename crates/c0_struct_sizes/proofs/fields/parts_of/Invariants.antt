use Rattle.std.proofs.Common.{◌≡◌, ◌++◌, map, drop}
use Rattle.c0_name_check.specs.Names.{look}
use Rattle.c0_struct_sizes.specs.Parts as parts
use Rattle.c0_tree.specs.View.{struct_view}
use Rattle.c0_struct_sizes.proofs.fields.parts_of.Given as goal

abbrev pub invariant-loop-def : goal.invariant-loop-def
invariant-loop-def l =
    map (λ x. x.items) l.graph.items ++ map (λ s. parts.parts (look l.names) s.fields) (map struct_view (drop l.def-index l.structs))
    ≡ map (λ s. parts.parts (look l.names) s.fields) (map struct_view l.structs)
