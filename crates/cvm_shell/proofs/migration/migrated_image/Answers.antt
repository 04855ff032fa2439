use Rattle.std.proofs.Common.{[], ◌∷◌, ℕ, Vec, Global}
use Rattle.run_scripts.specs.Plan.{AfterOld}
use Rattle.cvm_outside.specs.Outside.{files as told_files}
use Rattle.cvm_shell.specs.Linked.{IsAcceptedAsOld, MigrateIsAccepted}
use Rattle.cvm_shell.specs.Stages.{puts_made}
use Rattle.cvm_shell.specs.Views.{migrate_view}
use Rattle.std.proofs.lemmas.Result.{err_from_is_err_and}
use Rattle.cvm_shell.proofs.AcceptedAs.{if_ok}
use Rattle.cvm_shell.proofs.GotFiles.{all_come, all_stop, at}
use Rattle.cvm_shell.proofs.GotCalls.{gets_behind}
use Rattle.cvm_shell.proofs.migration.migrated_image.Goals as goal

pub returns-in_err-old-clause-comes : goal.returns-in_err-old-clause-comes
returns-in_err-old-clause-comes g c =
    let p = err_from_is_err_and c.from_residual.result c.from_residual.ensures.1 in
    let v = migrate_view c.args.names.now in
    rw (p.1, p.2) (all_stop (told_files g.S.Shelf c.args.shelf.now) _ (v.old ∷ []) (λ all. AfterOld g.M.LayerMaker.made v.image (at all 0)) c.in_err-old.field-0.0 c.in_err-old.ensures.stops (c.in_err-old.ensures.gets []))

pub returns-clause-comes : goal.returns-clause-comes
returns-clause-comes g c =
    let v = migrate_view c.args.names.now in
    let f = c.in_ok-old.ensures.got in
    all_come (puts_made v.image) (g.S.Shelf.file c.args.shelf.now) (v.old ∷ []) (c.in_ok-old.old.items ∷ []) (λ all. AfterOld g.M.LayerMaker.made v.image (at all 0)) c.renewed_image.result (f.tells, f.short, tt)
    (rw c.deref.ensures.value at (c.renewed_image.ensures.comes v.image))

pub returns-clause-accepted : goal.returns-clause-accepted
returns-clause-accepted g c =
    let made = g.M.LayerMaker.made in
    let m = migrate_view c.args.names.now in
    let told = g.S.Shelf.file c.args.shelf.now in
    let old = c.in_ok-old.old.items in
    if_ok (λ (v : Vec ℕ Global). IsAcceptedAsOld made old v.items) (λ (v : Vec ℕ Global). MigrateIsAccepted made told m v.items)
    (λ v is. record { old = old; old_told = c.in_ok-old.ensures.got.tells; accepted = is }) c.renewed_image.result (rw c.deref.ensures.value at c.renewed_image.ensures.accepted)

pub returns-in_err-old-clause-gets : goal.returns-in_err-old-clause-gets
returns-in_err-old-clause-gets g c = λ sink disk.
    let p = err_from_is_err_and c.from_residual.result c.from_residual.ensures.1 in
    rw (p.1, p.2) (c.in_err-old.ensures.gets [] sink disk)

pub returns-clause-gets : goal.returns-clause-gets
returns-clause-gets g c = λ sink disk.
    gets_behind _ _ _ c.renewed_image.result (c.in_ok-old.ensures.gets [] sink disk) c.renewed_image.ensures.inside c.renewed_image.ensures.short
