-- The faults of the parts of a call, in their order, are those of the call.
use Rattle.std.proofs.Common.{sym, ap, ◌∙◌}
use Rattle.std.proofs.lemmas.List.{length-map}
use Rattle.c0_tree.specs.View.{expr_view, name_view}
use Rattle.c0_meaning.specs.Env.{callee_named}
use Rattle.c0_body_check.specs.Scope.{env_view}
use Rattle.c0_body_check.proofs.PartsAreChecked.{call_met}
use Rattle.c0_body_check.proofs.stmts.check_call.Goals as goal

pub returns-clause-met : goal.returns-clause-met
returns-clause-met c =
    call_met (env_view c.args.scope.now) _ _ _ _ (name_view c.args.function.now) _ _ _ _ _ _ _ _ _ _ _ _ c.check_left-want.ensures c.form.ensures
    (c.find_callee-callee.ensures ∙ ap (callee_named (env_view c.args.scope.now)) c.as_slice.ensures.value)
    (sym (length-map c.args.args.now expr_view))
    c.meet_callee.ensures c.check_args.ensures c.is_deep_call-deep.ensures c.meet_if.ensures
