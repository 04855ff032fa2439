-- The faults are met in their order, and by numbers and listed words they are those by the structs.
use Rattle.std.proofs.Common.{nat_lt, ap, ◌∙◌, ◌++◌}
use Rattle.c0_tree.specs.View.{type_view}
use Rattle.c0_meaning.specs.Fault.{kept_all, EMPTY_ARRAY, TYPE_TOO_LARGE}
use Rattle.c0_meaning.specs.DeclaredTypes.{fault_if, has_empty_array, MAX_TYPE_WORDS}
use Rattle.c0_name_check.specs.Met.{met_view}
use Rattle.c0_name_check.specs.Names.{look}
use Rattle.c0_name_check.specs.Structs.{unknown_by, capped_words}
use Rattle.c0_name_check.proofs.FaultsMet.{two_met}
use Rattle.c0_name_check.proofs.StructsTell.{same_faults, same_resolved}
use Rattle.c0_name_check.proofs.types.check_type.Goals as goal

pub returns-clause-met : goal.returns-clause-met
returns-clause-met c shapes knows =
    let unknown = unknown_by (look c.args.names.now) (type_view c.args.ty.now) in
    let empty = fault_if (has_empty_array (type_view c.args.ty.now)) EMPTY_ARRAY c.args.span in
    let large = fault_if (nat_lt MAX_TYPE_WORDS (capped_words (look c.args.names.now) c.args.sizes.now (type_view c.args.ty.now))) TYPE_TOO_LARGE c.args.span in
    two_met (met_view c.args.least.now) (met_view c.name_structs.new.least) _ unknown (empty ++ large) c.name_structs.ensures.met
    (two_met (met_view c.name_structs.new.least) (met_view c.meet_if.new.least) _ empty large
    (c.meet_if.ensures ∙ ap (λ b. kept_all (met_view c.name_structs.new.least) (fault_if b EMPTY_ARRAY c.args.span)) c.has_empty_array-empty.ensures)
    (c.meet_if-2.ensures ∙ ap (λ k. kept_all (met_view c.meet_if.new.least) (fault_if (nat_lt MAX_TYPE_WORDS k) TYPE_TOO_LARGE c.args.span)) c.words_by-large.ensures))
    ∙ ap (kept_all (met_view c.args.least.now)) (same_faults (look c.args.names.now) c.args.sizes.now shapes knows.numbers knows.words (type_view c.args.ty.now) c.args.span)

pub returns-clause-named : goal.returns-clause-named
returns-clause-named c shapes knows =
    c.name_structs.ensures.named ∙ same_resolved (look c.args.names.now) c.args.sizes.now shapes knows.numbers knows.words (type_view c.args.ty.now)
