-- One argument more is resolved, and its faults are met.
use Rattle.std.proofs.Common.{◌≡◌, get_or, length, arith, map, sym, ap, ◌∙◌}
use Rattle.std.specs.Prelude.{option_map}
use Rattle.c0_tree.specs.View.{expr_view}
use Rattle.c0_meaning.specs.Expression.{resolved}
use Rattle.c0_meaning.specs.Fault.{kept_all}
use Rattle.c0_meaning.specs.Statement.{parameter_types, args_faults}
use Rattle.c0_name_check.specs.Met.{met_view}
use Rattle.c0_body_check.specs.Scope.{env_view, callee_view}
use Rattle.c0_body_check.proofs.InPlace.{rest, in_place_step, in_place_end}
use Rattle.c0_body_check.proofs.PartsAreChecked.{args_step}
use Rattle.c0_body_check.proofs.calls.check_args.Goals as goal

pub loop-index-preserved : goal.loop-index-preserved
loop-index-preserved c =
    let env = env_view c.args.scope.now in
    let es = map expr_view c.args.args.now in
    let params = parameter_types (option_map callee_view c.args.callee) in
    let arg = get_or c.loop-index.args c.loop-index.index c.index-args-index.result in
    let s = in_place_step expr_view (resolved env) c.args.args.now c.loop-index.args c.loop-index.index arg c.check_given.new.expr
    c.loop-index.invariant.0 c.loop-index-test.true (ap (get_or c.loop-index.args c.loop-index.index) c.index-args-index.is) c.check_given.ensures.1 in
    (s.changed, args_step env params es c.loop-index.index (expr_view arg) _ _ _ _ s.within s.was c.param_of.ensures c.check_given.ensures.0 c.loop-index.invariant.1)

pub returns : goal.returns
returns c =
    let env = env_view c.args.scope.now in
    let params = parameter_types (option_map callee_view c.args.callee) in
    let last : c.loop-index.index ≡ length c.args.args.now = omega (arith, c.loop-index.auto.index-end, c.loop-index-test.false) in
    let e = in_place_end expr_view (resolved env) c.args.args.now c.loop-index.args c.loop-index.index c.loop-index.invariant.0 last in
    (ap (λ l. kept_all (met_view c.loop-index.least) (args_faults env (rest c.loop-index.index params) l)) (sym e.1) ∙ c.loop-index.invariant.1, e.0)
