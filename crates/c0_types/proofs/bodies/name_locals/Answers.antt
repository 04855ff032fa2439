-- The names of parameters and locals are those of both lists, one after the other.
use Rattle.std.proofs.Common.{map, ap, sym}
use Rattle.std.proofs.lemmas.List.{length-map}
use Rattle.std.specs.Map.{lookup}
use Rattle.std.specs.Str.{bytes_eq}
use Rattle.c0_tree.specs.View.{decl_view}
use Rattle.c0_name_check.specs.Met.{met_view}
use Rattle.c0_name_check.specs.Names.{look}
use Rattle.c0_types.proofs.LocalNamesInTurn.{both_met, both_told}
use Rattle.c0_types.proofs.bodies.name_locals.Goals as goal

pub returns-clause-names : goal.returns-clause-names
returns-clause-names c =
    both_told (look c.new-names.result) (look c.declare_all.new.names) (look c.declare_all-2.new.names) (map decl_view c.args.params.now) (map decl_view c.args.locals.now)
    _ (sym (length-map c.args.params.now decl_view)) (λ q. ap (lookup (λ k. bytes_eq q k.items)) c.new-names.ensures.empty) c.in_ok-declare_all.ensures.names c.in_ok-declare_all-2.ensures.names

pub returns-clause-met : goal.returns-clause-met
returns-clause-met c =
    both_met c.twice_by_test_is_twice.ensures (look c.new-names.result) (look c.declare_all.new.names) (map decl_view c.args.params.now) (map decl_view c.args.locals.now)
    (met_view c.args.least.now) (met_view c.declare_all.new.least) (met_view c.declare_all-2.new.least)
    (λ q. ap (lookup (λ k. bytes_eq q k.items)) c.new-names.ensures.empty) c.in_ok-declare_all.ensures.names c.in_ok-declare_all.ensures.met c.in_ok-declare_all-2.ensures.met
