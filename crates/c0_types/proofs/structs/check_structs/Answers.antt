-- The names of the structs are met first.
use Rattle.std.proofs.Common.{map}
use Rattle.c0_tree.specs.View.{struct_view}
use Rattle.c0_meaning.specs.Env.{shape_of}
use Rattle.c0_meaning.specs.Names.{struct_name_faults}
use Rattle.c0_meaning.specs.Unit.{structs_faults}
use Rattle.c0_name_check.specs.Met.{met_view}
use Rattle.c0_name_check.proofs.FaultsMet.{two_met}
use Rattle.c0_types.proofs.structs.check_structs.Goals as goal

pub returns-clause-met : goal.returns-clause-met
returns-clause-met c =
    two_met (met_view c.args.least.now) (met_view c.name_structs.new.least) (met_view c.check_each.new.least)
    (struct_name_faults (map struct_view c.args.structs.now)) (structs_faults (map shape_of (map struct_view c.args.structs.now)) (map struct_view c.args.structs.now))
    c.in_ok-names.ensures.met c.in_ok-field_names.ensures.met
