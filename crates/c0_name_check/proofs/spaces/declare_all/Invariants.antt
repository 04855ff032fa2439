-- What the map says, and what was met, with the declarations that are still to come added.
use Rattle.std.proofs.Common.{◌≡◌, ◌+◌, ℕ, List, map, drop, is_some}
use Rattle.std.specs.Option.{option_or}
use Rattle.c0_meaning.specs.Fault.{kept_all}
use Rattle.c0_tree.specs.View.{decl_view}
use Rattle.c0_name_check.specs.Met.{met_view}
use Rattle.c0_name_check.specs.Names.{look, number_named}
use Rattle.c0_name_check.specs.Spaces.{twice_by}
use Rattle.c0_name_check.proofs.spaces.declare_all.Given as goal

abbrev pub invariant-loop-decl : goal.invariant-loop-decl
invariant-loop-decl l = record {
  at : l.number ≡ l.first + l.decl-index;
  names : (q : List ℕ) →
      option_or (look l.names q) (number_named (λ d. d.name.text) q l.number (map decl_view (drop l.decl-index l.decls)))
      ≡ option_or (look l.initial.names q) (number_named (λ d. d.name.text) q l.first (map decl_view l.decls));
  met :
      kept_all (met_view l.least) (twice_by (λ q. is_some (look l.names q)) (map (λ d. d.name) (map decl_view (drop l.decl-index l.decls))))
      ≡ kept_all (met_view l.initial.least) (twice_by (λ q. is_some (look l.initial.names q)) (map (λ d. d.name) (map decl_view l.decls)));
}
