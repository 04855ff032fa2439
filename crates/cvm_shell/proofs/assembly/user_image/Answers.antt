use Rattle.std.proofs.Common.{[], ◌∷◌}
use Rattle.run_scripts.specs.Plan.{AfterText}
use Rattle.cvm_outside.specs.Outside.{files as told_files}
use Rattle.cvm_shell.specs.Stages.{puts_made}
use Rattle.cvm_shell.specs.Views.{user_view}
use Rattle.std.proofs.lemmas.Result.{err_from_is_err_and}
use Rattle.cvm_shell.proofs.GotFiles.{all_come, all_stop, at}
use Rattle.cvm_shell.proofs.GotCalls.{gets_behind}
use Rattle.cvm_shell.proofs.assembly.user_image.Goals as goal

pub returns-in_err-text-clause-comes : goal.returns-in_err-text-clause-comes
returns-in_err-text-clause-comes g c =
    let p = err_from_is_err_and c.from_residual.result c.from_residual.ensures.1 in
    let v = user_view c.args.names.now in
    rw (p.1, p.2) (all_stop (told_files g.S.Shelf c.args.shelf.now) _ (v.text ∷ []) (λ all. AfterText v.image (at all 0)) c.in_err-text.field-0.0 c.in_err-text.ensures.stops (c.in_err-text.ensures.gets []))

pub returns-clause-comes : goal.returns-clause-comes
returns-clause-comes g c =
    let v = user_view c.args.names.now in
    let f = c.in_ok-text.ensures.got in
    all_come (puts_made v.image) (g.S.Shelf.file c.args.shelf.now) (v.text ∷ []) (c.in_ok-text.text.items ∷ []) (λ all. AfterText v.image (at all 0)) c.assembled_image.result (f.tells, f.short, tt)
    (rw c.deref.ensures.value at (c.assembled_image.ensures.comes v.image))

pub returns-in_err-text-clause-gets : goal.returns-in_err-text-clause-gets
returns-in_err-text-clause-gets g c = λ sink disk.
    let p = err_from_is_err_and c.from_residual.result c.from_residual.ensures.1 in
    rw (p.1, p.2) (c.in_err-text.ensures.gets [] sink disk)

pub returns-clause-gets : goal.returns-clause-gets
returns-clause-gets g c = λ sink disk.
    gets_behind _ _ _ c.assembled_image.result (c.in_ok-text.ensures.gets [] sink disk) c.assembled_image.ensures.inside c.assembled_image.ensures.short
