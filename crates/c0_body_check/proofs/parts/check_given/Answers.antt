-- The expression is checked, and then its type is compared with the one that is asked.
use Rattle.c0_body_check.specs.Scope.{env_view}
use Rattle.c0_body_check.proofs.PartsAreChecked.{given_part}
use Rattle.c0_body_check.proofs.parts.check_given.Goals as goal

pub returns : goal.returns
returns c =
    given_part (env_view c.args.scope.now) _ _ _ _ _ _ _ _ _ _ c.check_asked.ensures c.form.ensures c.form-form.ensures c.span_of-span.ensures c.meet_other.ensures
