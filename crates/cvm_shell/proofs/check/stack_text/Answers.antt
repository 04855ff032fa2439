use Rattle.std.proofs.Common.{[], ◌∷◌}
use Rattle.run_scripts.specs.Plan.{AfterChecked}
use Rattle.cvm_outside.specs.Outside.{files as told_files}
use Rattle.cvm_shell.specs.Stages.{told_text}
use Rattle.cvm_shell.specs.Views.{check_view}
use Rattle.std.proofs.lemmas.Result.{err_from_is_err_and}
use Rattle.cvm_shell.proofs.GotFiles.{all_come, all_stop, at}
use Rattle.cvm_shell.proofs.GotCalls.{gets_behind}
use Rattle.cvm_shell.proofs.check.stack_text.Goals as goal

pub returns-in_err-object-clause-comes : goal.returns-in_err-object-clause-comes
returns-in_err-object-clause-comes g c =
    let p = err_from_is_err_and c.from_residual.result c.from_residual.ensures.1 in
    let v = check_view c.args.check.now in
    rw (p.1, p.2) (all_stop (told_files g.S.Shelf c.args.shelf.now) _ (v.object ∷ []) (λ all. AfterChecked v.stack (at all 0)) c.in_err-object.field-0.0 c.in_err-object.ensures.stops (c.in_err-object.ensures.gets []))

pub returns-clause-comes : goal.returns-clause-comes
returns-clause-comes g c =
    let v = check_view c.args.check.now in
    let f = c.in_ok-object.ensures.got in
    all_come told_text (g.S.Shelf.file c.args.shelf.now) (v.object ∷ []) (c.in_ok-object.object.items ∷ []) (λ all. AfterChecked v.stack (at all 0)) c.object_text.result (f.tells, f.short, tt)
    (rw c.deref.ensures.value at c.object_text.ensures.comes)

pub returns-in_err-object-clause-gets : goal.returns-in_err-object-clause-gets
returns-in_err-object-clause-gets g c = λ sink disk.
    let p = err_from_is_err_and c.from_residual.result c.from_residual.ensures.1 in
    rw (p.1, p.2) (c.in_err-object.ensures.gets [] sink disk)

pub returns-clause-gets : goal.returns-clause-gets
returns-clause-gets g c = λ sink disk.
    gets_behind _ _ _ c.object_text.result (c.in_ok-object.ensures.gets [] sink disk) c.object_text.ensures.inside c.object_text.ensures.short
