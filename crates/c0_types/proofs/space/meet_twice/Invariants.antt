-- The names that follow in source order are still to be met.
use Rattle.std.proofs.Common.{◌≡◌, ◌≤◌, ◌+◌, ◌-◌, map, drop, length, is_some}
use Rattle.c0_tree.specs.View.{decl_view, function_view}
use Rattle.c0_meaning.specs.Fault.{kept_all}
use Rattle.c0_meaning.specs.Names.{unit_names}
use Rattle.c0_name_check.specs.Met.{met_view}
use Rattle.c0_name_check.specs.Names.{look}
use Rattle.c0_name_check.specs.Spaces.{twice_by}
use Rattle.c0_types.proofs.space.meet_twice.Given as goal

abbrev pub invariant-loop-global : goal.invariant-loop-global
invariant-loop-global l = record {
  globals : l.global ≤ length l.globals;
  functions : l.function ≤ length l.functions;
  met :
      kept_all (met_view l.least) (twice_by (λ q. is_some (look l.space q)) (unit_names (map decl_view (drop l.global l.globals)) (map function_view (drop l.function l.functions))))
      ≡ kept_all (met_view l.initial.least) (twice_by (λ q. is_some (look l.initial.space q)) (unit_names (map decl_view l.globals) (map function_view l.functions)));
}

abbrev pub decreases-loop-global : goal.decreases-loop-global
decreases-loop-global l = (length l.globals - l.global) + (length l.functions - l.function)
