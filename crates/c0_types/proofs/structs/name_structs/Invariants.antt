-- The structs so far have their numbers, and the names of the others are still to be met.
use Rattle.std.proofs.Common.{◌≡◌, ℕ, List, map, drop, is_some}
use Rattle.std.specs.Option.{option_or}
use Rattle.c0_tree.specs.View.{struct_view}
use Rattle.c0_meaning.specs.Fault.{kept_all}
use Rattle.c0_name_check.specs.Met.{met_view}
use Rattle.c0_name_check.specs.Names.{look, number_named}
use Rattle.c0_name_check.specs.Spaces.{twice_by}
use Rattle.c0_types.proofs.structs.name_structs.Given as goal

abbrev pub invariant-loop-definition : goal.invariant-loop-definition
invariant-loop-definition l = record {
  at : l.number ≡ l.definition-index;
  names : (q : List ℕ) →
      option_or (look l.names q) (number_named (λ s. s.name.text) q l.number (map struct_view (drop l.definition-index l.structs)))
      ≡ number_named (λ s. s.name.text) q 0 (map struct_view l.structs);
  met :
      kept_all (met_view l.least) (twice_by (λ q. is_some (look l.names q)) (map (λ s. s.name) (map struct_view (drop l.definition-index l.structs))))
      ≡ kept_all (met_view l.initial.least) (twice_by (λ q. is_some (look l.initial.names q)) (map (λ s. s.name) (map struct_view l.structs)));
}
