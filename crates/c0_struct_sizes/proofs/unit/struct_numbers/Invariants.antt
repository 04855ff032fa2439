use Rattle.std.proofs.Common.{◌≡◌, ℕ, List, map, drop}
use Rattle.std.specs.Option.{option_or}
use Rattle.c0_tree.specs.View.{struct_view}
use Rattle.c0_meaning.specs.Env.{shape_of}
use Rattle.c0_name_check.specs.Names.{look, number_named}
use Rattle.c0_struct_sizes.proofs.unit.struct_numbers.Given as goal

abbrev pub invariant-loop-def : goal.invariant-loop-def
invariant-loop-def l = record {
  at : l.number ≡ l.def-index;
  names : (q : List ℕ) →
      option_or (look l.names q) (number_named (λ s. s.text) q l.number (map shape_of (map struct_view (drop l.def-index l.structs))))
      ≡ number_named (λ s. s.text) q 0 (map shape_of (map struct_view l.structs));
}
