use Rattle.std.proofs.Common.{[], ◌∷◌, ℕ, List}
use Rattle.cvm_outside.specs.Outside.{files as told_files}
use Rattle.std.proofs.lemmas.Result.{err_from_is_err_and}
use Rattle.real_layer.specs.Image.{layer_image}
use Rattle.run_scripts.specs.Ends.{AreBytes}
use Rattle.run_scripts.specs.Plan.{Plan, AfterFiles}
use Rattle.cvm_shell.specs.Stages.{ready_for}
use Rattle.cvm_shell.specs.Views.{boot_view}
use Rattle.cvm_shell.proofs.GotFiles.{all_come, all_stop, at, file_moved}
use Rattle.cvm_shell.proofs.GotCalls.{are_both, stopped_then, gets_behind, told_bytes, if_ok}
use Rattle.run_scripts.specs.declared.session.Session.{Session}
use Rattle.cvm_shell.proofs.boot.plan.Goals as goal

-- what comes after both files
abbrev after : Session → List (List ℕ) → Plan → Type 0
after session all = AfterFiles layer_image session (at all 0) (at all 1)

pub returns-in_err-image-clause-comes : goal.returns-in_err-image-clause-comes
returns-in_err-image-clause-comes g c = λ session.
    let p = err_from_is_err_and c.from_residual.result c.from_residual.ensures.1 in
    let b = boot_view c.args.boot.now in
    rw (p.1, p.2) (all_stop (told_files g.S.Shelf c.args.shelf.now) _ (b.image ∷ b.schedule ∷ []) (after session) c.in_err-image.field-0.0 c.in_err-image.ensures.stops (c.in_err-image.ensures.gets (b.schedule ∷ [])))

pub returns-in_err-schedule-clause-comes : goal.returns-in_err-schedule-clause-comes
returns-in_err-schedule-clause-comes g c = λ session.
    let p = err_from_is_err_and c.from_residual-in_err-schedule.result c.from_residual-in_err-schedule.ensures.1 in
    let b = boot_view c.args.boot.now in
    rw (p.1, p.2) (all_stop (told_files g.S.Shelf c.args.shelf.now) _ (b.image ∷ b.schedule ∷ []) (after session) c.in_err-schedule.field-0.0 c.in_err-schedule.ensures.stops
    (λ sink disk. stopped_then (b.image ∷ []) (b.schedule ∷ []) _ _ _ _ (c.in_ok-image.ensures.gets [] sink disk) (c.in_err-schedule.ensures.gets [] sink disk)))

pub returns-clause-comes : goal.returns-clause-comes
returns-clause-comes g c = λ session.
    let file = g.S.Shelf.file c.args.shelf.now in
    let b = boot_view c.args.boot.now in
    let i = c.in_ok-image.ensures.got in
    let s = file_moved (file b.schedule) _ c.in_ok-schedule.schedule.items (c.in_ok-image.ensures.files b.schedule) c.in_ok-schedule.ensures.got in
    all_come (ready_for session) file (b.image ∷ b.schedule ∷ []) (c.in_ok-image.image.items ∷ c.in_ok-schedule.schedule.items ∷ []) (after session) c.ready_of.result (i.tells, i.short, (s.tells, s.short, tt))
    (rw (c.deref.ensures.value, c.deref-2.ensures.value) at (c.ready_of.ensures.comes session))

pub returns-in_err-image-clause-gets : goal.returns-in_err-image-clause-gets
returns-in_err-image-clause-gets g c = λ sink disk.
    let p = err_from_is_err_and c.from_residual.result c.from_residual.ensures.1 in
    rw (p.1, p.2) (c.in_err-image.ensures.gets (c.args.boot.now.schedule.now ∷ []) sink disk)

pub returns-in_err-schedule-clause-gets : goal.returns-in_err-schedule-clause-gets
returns-in_err-schedule-clause-gets g c = λ sink disk.
    let p = err_from_is_err_and c.from_residual-in_err-schedule.result c.from_residual-in_err-schedule.ensures.1 in
    rw (p.1, p.2) (stopped_then (c.args.boot.now.image.now ∷ []) (c.args.boot.now.schedule.now ∷ []) _ _ _ _ (c.in_ok-image.ensures.gets [] sink disk) (c.in_err-schedule.ensures.gets [] sink disk))

pub returns-clause-gets : goal.returns-clause-gets
returns-clause-gets g c = λ sink disk.
    gets_behind _ _ _ c.ready_of.result (are_both (c.args.boot.now.image.now ∷ []) _ _ (c.in_ok-image.ensures.gets [] sink disk) (c.args.boot.now.schedule.now ∷ []) _ (c.in_ok-schedule.ensures.gets [] sink disk))
    c.ready_of.ensures.inside c.ready_of.ensures.short

pub returns-clause-bytes : goal.returns-clause-bytes
returns-clause-bytes g c =
    let file = g.S.Shelf.file c.args.shelf.now in
    let b = boot_view c.args.boot.now in
    if_ok (AreBytes file (b.image ∷ b.schedule ∷ [])) c.ready_of.result (
      told_bytes (file b.image) _ c.in_ok-image.ensures.got,
      (told_bytes (file b.schedule) _ (file_moved (file b.schedule) _ c.in_ok-schedule.schedule.items (c.in_ok-image.ensures.files b.schedule) c.in_ok-schedule.ensures.got), tt),
    )
