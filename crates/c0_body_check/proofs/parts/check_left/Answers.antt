-- The left side is checked as an expression, and then asked for a place and a scalar type.
use Rattle.c0_body_check.specs.Scope.{env_view}
use Rattle.c0_body_check.proofs.PartsAreChecked.{left_part}
use Rattle.c0_body_check.proofs.parts.check_left.Goals as goal

pub returns : goal.returns
returns c =
    left_part (env_view c.args.scope.now) _ _ _ _ _ _ _ _ _ c.check-found.ensures.checks c.is_place-place.ensures c.span_of-span.ensures c.left.ensures
