-- The primitives stand first in the space: what is set there before the names of the unit are their names.
use Rattle.std.proofs.Common.{ap, ◌∙◌, map, is_some}
use Rattle.c0_tree.specs.Primitives.{primitive_view}
use Rattle.c0_tree.specs.View.{decl_view, function_view}
use Rattle.c0_meaning.specs.Fault.{kept_all}
use Rattle.c0_meaning.specs.Names.{unit_names}
use Rattle.c0_name_check.specs.Met.{met_view}
use Rattle.c0_name_check.specs.Names.{look}
use Rattle.c0_types.proofs.NamesSetInTurn.{numbered_among}
use Rattle.c0_types.proofs.space.name_unit.Goals as goal

pub returns-clause-met : goal.returns-clause-met
returns-clause-met c =
    c.in_ok-meet_twice.ensures
    ∙ ap (kept_all (met_view c.args.least.now)) (c.twice_by_test_is_twice.ensures (map (λ p. p.name) (map primitive_view c.args.primitives.now))
    (unit_names (map decl_view c.args.globals.now) (map function_view c.args.functions.now)) (λ q. is_some (look c.in_ok-space.space q))
    (λ q. ap is_some (c.in_ok-space.ensures q) ∙ numbered_among (λ p. p.name) q 0 (map primitive_view c.args.primitives.now)))
