use Rattle.std.proofs.Common.{[], ◌∷◌}
use Rattle.cvm_shell.specs.Views.{kernel_view}
use Rattle.run_scripts.specs.Plan.{AfterKernel}
use Rattle.cvm_outside.specs.Outside.{files as told_files}
use Rattle.cvm_shell.specs.Stages.{puts_made}
use Rattle.std.proofs.lemmas.Result.{err_from_is_err_and}
use Rattle.cvm_shell.proofs.GotFiles.{all_come, all_stop, at}
use Rattle.cvm_shell.proofs.GotCalls.{gets_behind}
use Rattle.cvm_shell.proofs.object.kernel_object.Goals as goal

pub returns-in_err-source-clause-comes : goal.returns-in_err-source-clause-comes
returns-in_err-source-clause-comes g c =
    let p = err_from_is_err_and c.from_residual.result c.from_residual.ensures.1 in
    let v = kernel_view c.args.names.now in
    rw (p.1, p.2) (all_stop (told_files g.S.Shelf c.args.shelf.now) _ (v.source ∷ []) (λ all. AfterKernel v.object (at all 0)) c.in_err-source.field-0.0 c.in_err-source.ensures.stops (c.in_err-source.ensures.gets []))

pub returns-clause-comes : goal.returns-clause-comes
returns-clause-comes g c =
    let v = kernel_view c.args.names.now in
    let f = c.in_ok-source.ensures.got in
    all_come (puts_made v.object) (g.S.Shelf.file c.args.shelf.now) (v.source ∷ []) (c.in_ok-source.source.items ∷ []) (λ all. AfterKernel v.object (at all 0)) c.compiled_object.result (f.tells, f.short, tt)
    (rw c.deref.ensures.value at (c.compiled_object.ensures.comes v.object))

pub returns-in_err-source-clause-gets : goal.returns-in_err-source-clause-gets
returns-in_err-source-clause-gets g c = λ sink disk.
    let p = err_from_is_err_and c.from_residual.result c.from_residual.ensures.1 in
    rw (p.1, p.2) (c.in_err-source.ensures.gets [] sink disk)

pub returns-clause-gets : goal.returns-clause-gets
returns-clause-gets g c = λ sink disk.
    gets_behind _ _ _ c.compiled_object.result (c.in_ok-source.ensures.gets [] sink disk) c.compiled_object.ensures.inside c.compiled_object.ensures.short
