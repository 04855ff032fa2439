use Rattle.std.proofs.Common.{◌≡◌, ◌++◌, map, drop}
use Rattle.c0_tree.specs.View.{struct_view, unit_view}
use Rattle.c0_meaning.specs.Offsets.{struct_offsets}
use Rattle.c0_meaning.specs.Sound.{shapes}
use Rattle.c0_meaning.proofs.offsets.structs_offsets.Given as goal

abbrev pub invariant-loop-def : goal.invariant-loop-def
invariant-loop-def l =
    map (λ v. v.items) l.all.items ++ map (struct_offsets (shapes (unit_view l.unit))) (map struct_view (drop l.def-index l.structs))
    ≡ map (struct_offsets (shapes (unit_view l.unit))) (map struct_view l.structs)
