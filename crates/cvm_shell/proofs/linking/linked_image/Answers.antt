use Rattle.std.proofs.Common.{map, ℕ, Vec, Global}
use Rattle.std.proofs.lemmas.Result.{err_from_is_err_and}
use Rattle.cvm_shell.specs.Linked.{IsAcceptedAs, AreAcceptedAs}
use Rattle.cvm_shell.specs.Stages.{puts_made}
use Rattle.cvm_shell.proofs.FilesComeToPlans.{if_refused, if_plan}
use Rattle.cvm_shell.proofs.AcceptedAs.{if_ok}
use Rattle.cvm_shell.proofs.LinkPlans.{object_fault, fault_unless, plan_object, params_fault, plan_params, users_fault, plan_users}
use Rattle.cvm_shell.proofs.linking.linked_image.Goals as goal

pub returns-in_err-object-clause-comes : goal.returns-in_err-object-clause-comes
returns-in_err-object-clause-comes g c = λ name.
    let p = err_from_is_err_and c.from_residual.result c.from_residual.ensures.1 in
    rw (p.1, p.2) (object_fault c.bytes_have_one_answer.ensures.one g.M.LayerMaker.made name _ _ _ c.in_err-object.field-0.0 (fault_unless _ _ c.in_err-object.ensures.answer))

pub returns-in_err-params-clause-comes : goal.returns-in_err-params-clause-comes
returns-in_err-params-clause-comes g c = λ name.
    let p = err_from_is_err_and c.from_residual-in_err-params.result c.from_residual-in_err-params.ensures.1 in
    let files = map (λ (b : Vec ℕ Global). b.items) c.args.users.now in
    rw (p.1, p.2) (if_refused _ _ (λ q. plan_object c.bytes_have_one_answer.ensures.one g.M.LayerMaker.made name c.args.object.now c.args.params.now files c.in_ok-object.object q c.in_ok-object.ensures.answer) _
    (params_fault g.M.LayerMaker.made name c.in_ok-object.object files _ c.in_err-params.field-0.0 c.in_err-params.ensures.is))

pub returns-in_err-users-clause-comes : goal.returns-in_err-users-clause-comes
returns-in_err-users-clause-comes g c = λ name.
    let p = err_from_is_err_and c.from_residual-in_err-users.result c.from_residual-in_err-users.ensures.1 in
    let made = g.M.LayerMaker.made in
    let o = c.in_ok-object.object in
    let files = map (λ (b : Vec ℕ Global). b.items) c.args.users.now in
    rw (p.1, p.2) (if_refused _ _ (λ q. plan_object c.bytes_have_one_answer.ensures.one made name c.args.object.now c.args.params.now files o q c.in_ok-object.ensures.answer) _
    (if_refused _ _ (λ q. plan_params made name o files _ c.in_ok-params.params q c.in_ok-params.ensures.is) _
    (users_fault made name o c.in_ok-params.params _ c.in_err-users.field-0.0 c.in_err-users.ensures)))

pub returns-clause-comes : goal.returns-clause-comes
returns-clause-comes g c = λ name.
    let made = g.M.LayerMaker.made in
    let o = c.in_ok-object.object in
    let files = map (λ (b : Vec ℕ Global). b.items) c.args.users.now in
    let users = map (λ (u : Vec ℕ Global). u.items) c.in_ok-users.users.items in
    if_plan (puts_made name) _ _ (λ q. plan_object c.bytes_have_one_answer.ensures.one made name c.args.object.now c.args.params.now files o q c.in_ok-object.ensures.answer) c.image_of.result
    (if_plan (puts_made name) _ _ (λ q. plan_params made name o files _ c.in_ok-params.params q c.in_ok-params.ensures.is) c.image_of.result
    (if_plan (puts_made name) _ _ (λ q. plan_users made name o c.in_ok-params.params _ users q c.in_ok-users.ensures) c.image_of.result
    (rw c.deref.ensures.value at (c.image_of.ensures.comes name))))

pub returns-clause-accepted : goal.returns-clause-accepted
returns-clause-accepted g c =
    let made = g.M.LayerMaker.made in
    let files = map (λ (b : Vec ℕ Global). b.items) c.args.users.now in
    let users = map (λ (u : Vec ℕ Global). u.items) c.in_ok-users.users.items in
    if_ok (λ (v : Vec ℕ Global). IsAcceptedAs made c.in_ok-object.object.source c.in_ok-params.params users v.items) (λ (v : Vec ℕ Global). AreAcceptedAs made c.args.object.now c.args.params.now files v.items)
    (λ v is. record {
      kernel = c.in_ok-object.object;
      limits = c.in_ok-params.params;
      words = users;
      kernel_is = c.in_ok-object.ensures.answer;
      limits_are = c.in_ok-params.ensures.is;
      words_are = c.in_ok-users.ensures;
      accepted = is;
    }) c.image_of.result (rw c.deref.ensures.value at c.image_of.ensures.accepted)
