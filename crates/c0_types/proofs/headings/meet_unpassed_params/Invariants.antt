-- The faults of the parameters that follow are still to be met.
use Rattle.std.proofs.Common.{◌≡◌, map, drop}
use Rattle.c0_meaning.specs.DeclaredTypes.{pass_faults}
use Rattle.c0_meaning.specs.Fault.{kept_all}
use Rattle.c0_name_check.specs.Met.{met_view}
use Rattle.c0_tree.specs.View.{decl_view}
use Rattle.c0_types.proofs.headings.meet_unpassed_params.Given as goal

abbrev pub invariant-loop-param : goal.invariant-loop-param
invariant-loop-param l =
    kept_all (met_view l.least) (pass_faults l.is_asm (map decl_view (drop l.param-index l.params)))
    ≡ kept_all (met_view l.initial.least) (pass_faults l.is_asm (map decl_view l.params))
