-- The faults of the statements are met, and then those of the expression that is returned.
use Rattle.c0_tree.specs.View.{expr_view, stmts_view}
use Rattle.c0_meaning.specs.Statement.{tested_faults}
use Rattle.c0_name_check.specs.Met.{met_view}
use Rattle.c0_meaning.specs.Form.{ty_view}
use Rattle.c0_body_check.specs.Scope.{env_view}
use Rattle.c0_body_check.specs.Stmts.{faults_of_stmts}
use Rattle.c0_name_check.proofs.FaultsMet.{two_met}
use Rattle.c0_body_check.proofs.StatementsInPlace.{lent_stmts}
use Rattle.c0_body_check.proofs.body.check_code.Goals as goal

pub returns-clause-met : goal.returns-clause-met
returns-clause-met c =
    let env = env_view c.args.scope.now in
    let b = lent_stmts env _ _ _ _ _ c.as_mut_slice.ensures.value c.check_stmts.ensures in
    two_met (met_view c.args.least.now) (met_view c.check_stmts.new.least) _ (faults_of_stmts env (stmts_view c.args.stmts.now.items))
    (tested_faults env (ty_view c.args.ty.now) (expr_view c.args.answer.now)) b.0 c.check_tested.ensures.0
