-- The faults of the two sides, and of their need, are those of the assignment.
use Rattle.c0_body_check.specs.Scope.{env_view}
use Rattle.c0_body_check.proofs.PartsAreChecked.{assign_met}
use Rattle.c0_body_check.proofs.stmts.check_assign.Goals as goal

pub returns-clause-met : goal.returns-clause-met
returns-clause-met c =
    assign_met (env_view c.args.scope.now) _ _ _ _ _ _ _ _ _ _ _ c.check_left-want.ensures c.check_given.ensures c.is_deep_assignment-deep.ensures c.meet_if.ensures
