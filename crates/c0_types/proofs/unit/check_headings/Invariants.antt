-- The headings so far are checked, and the others are as they were, their faults being still to be met.
use Rattle.std.proofs.Common.{◌≡◌, ◌≤◌, ℕ, List, map, get_or}
use Rattle.c0_meaning.specs.Env.{Shape}
use Rattle.c0_meaning.specs.Fault.{kept_all}
use Rattle.c0_name_check.specs.Met.{met_view}
use Rattle.c0_name_check.specs.Structs.{KnowsStructs}
use Rattle.c0_tree.specs.View.{function_view}
use Rattle.c0_tree.specs.declared.tree.Function.{Function}
use Rattle.c0_body_check.proofs.InPlace.{rest}
use Rattle.c0_types.specs.Parts.{headed, headings_faults}
use Rattle.c0_types.proofs.DeclaredInPlace.{numbered}
use Rattle.c0_types.proofs.unit.check_headings.Given as goal

abbrev pub invariant-loop-function : goal.invariant-loop-function
invariant-loop-function l = record {
  at : l.number ≡ l.function-index;
  changed : (shapes : List Shape) → KnowsStructs l.names l.words shapes
      → map function_view l.function-items ≡ numbered (headed shapes) 0 l.function-index (map function_view l.initial.function-items);
  met : (shapes : List Shape) → KnowsStructs l.names l.words shapes
      → kept_all (met_view l.least) (headings_faults shapes (rest l.function-index (map function_view l.initial.function-items)))
      ≡ kept_all (met_view l.initial.least) (headings_faults shapes (map function_view l.initial.function-items));
  others : (i : ℕ) (d : Function) → l.function-index ≤ i → get_or l.function-items i d ≡ get_or l.initial.function-items i d;
}
