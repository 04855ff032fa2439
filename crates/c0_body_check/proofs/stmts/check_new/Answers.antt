-- The faults are met in another order than the rule lists them, and the least is the same.
use Rattle.c0_tree.specs.View.{type_view}
use Rattle.c0_body_check.specs.Scope.{env_view}
use Rattle.c0_body_check.proofs.PartsAreChecked.{new_met}
use Rattle.c0_body_check.proofs.stmts.check_new.Goals as goal

pub returns-clause-met : goal.returns-clause-met
returns-clause-met c =
    new_met (env_view c.args.scope.now) _ _ _ _ (type_view c.args.ty.now) _ _ _ _ _ _ _ c.meeting_is_free_of_order.ensures.joins.swapped
    c.check_left-want.ensures c.meet_object.ensures c.check_object_type.ensures.met c.is_deep_object-deep.ensures c.meet_if.ensures
