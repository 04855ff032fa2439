use Rattle.std.proofs.lemmas.Result.{err_from_is_err_and}
use Rattle.cvm_shell.proofs.LinkPlans.{linked_fault, linked_whole, linked_accepted}
use Rattle.cvm_shell.proofs.linking.image_of.Goals as goal

pub returns-in_err-image-clause-comes : goal.returns-in_err-image-clause-comes
returns-in_err-image-clause-comes g c = λ name.
    let p = err_from_is_err_and c.from_residual.result c.from_residual.ensures.1 in
    let is = c.in_err-image.ensures.is in
    rw (p.1, p.2) (linked_fault c.sources_have_one_answer.ensures g.M.LayerMaker.made name _ _ _ c.in_err-image.field-0.0 is.0 is.1 is.2)

pub returns-in-Ok-clause-comes : goal.returns-in-Ok-clause-comes
returns-in-Ok-clause-comes g c = λ name.
    let is = c.in_ok-image.ensures.is in
    linked_whole c.sources_have_one_answer.ensures g.M.LayerMaker.made name _ _ _ _ _ is.0 is.1 is.2 c.in-Ok.ensures.spelled

pub returns-in-Ok-clause-accepted : goal.returns-in-Ok-clause-accepted
returns-in-Ok-clause-accepted g c =
    let is = c.in_ok-image.ensures.is in
    linked_accepted c.linked_images_are_accepted.ensures g.M.LayerMaker.made _ _ _ _ is.0 _ is.1 is.2 (c.in-Ok.ensures.read_back c.in_ok-image.ensures.spelled)
