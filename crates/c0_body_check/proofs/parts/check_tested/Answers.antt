-- The expression is checked where its type is asked, and then its need of registers.
use Rattle.c0_body_check.specs.Scope.{env_view}
use Rattle.c0_body_check.proofs.PartsAreChecked.{tested_part}
use Rattle.c0_body_check.proofs.parts.check_tested.Goals as goal

pub returns : goal.returns
returns c =
    tested_part (env_view c.args.scope.now) _ _ _ _ _ _ _ _ c.check_given.ensures c.span_of-span.ensures c.is_deep-deep.ensures c.meet_if.ensures
