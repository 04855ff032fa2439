use Rattle.std.proofs.Common.{[], ◌∷◌, ℕ, List, ap, ◌∙◌, Err}
use Rattle.std.specs.Prelude.{Result}
use Rattle.cvm_outside.specs.Outside.{files as told_files}
use Rattle.std.proofs.lemmas.Result.{err_from_is_err_and}
use Rattle.kernel_linker.specs.Accept.{image_system}
use Rattle.real_layer.specs.Image.{layer_image}
use Rattle.run_scripts.specs.Command.{save_session}
use Rattle.run_scripts.specs.Plan.{Plan, boots, AfterThree}
use Rattle.cvm_shell.specs.Views.{save_view}
use Rattle.cvm_shell.specs.Stages.{resumable_for}
use Rattle.run_scripts.specs.declared.session.Session.{Session}
use Rattle.cvm_shell.specs.declared.boot.Stop.{Stop}
use Rattle.cvm_shell.specs.declared.resuming.Resumable.{Resumable}
use Rattle.cvm_shell.proofs.SavePlans.{three_come, three_stopped}
use Rattle.cvm_shell.proofs.GotFiles.{all_come, all_stop, at, fetched_plan, file_moved}
use Rattle.cvm_shell.proofs.GotCalls.{are_both, stopped_then, stop_behind, told_bytes}
use Rattle.cvm_shell.proofs.resuming.plan_resume.Goals as goal

-- what comes after the three files
abbrev after : Session → List (List ℕ) → Plan → Type 0
after session all = AfterThree layer_image session (at all 0) (at all 1) (at all 2)

pub returns-in_err-image-clause-comes : goal.returns-in_err-image-clause-comes
returns-in_err-image-clause-comes g c =
    let p = err_from_is_err_and c.from_residual.result c.from_residual.ensures.1 in
    let v = save_view c.args.resume.now in
    rw (p.1, p.2) (all_stop (told_files g.S.Shelf c.args.shelf.now) _ (v.boot.image ∷ v.boot.schedule ∷ v.file ∷ []) (after (save_session v)) c.in_err-image.field-0.0 c.in_err-image.ensures.stops
    (c.in_err-image.ensures.gets (v.boot.schedule ∷ v.file ∷ [])))

pub returns-in_err-schedule-clause-comes : goal.returns-in_err-schedule-clause-comes
returns-in_err-schedule-clause-comes g c =
    let p = err_from_is_err_and c.from_residual-in_err-schedule.result c.from_residual-in_err-schedule.ensures.1 in
    let v = save_view c.args.resume.now in
    rw (p.1, p.2) (all_stop (told_files g.S.Shelf c.args.shelf.now) _ (v.boot.image ∷ v.boot.schedule ∷ v.file ∷ []) (after (save_session v)) c.in_err-schedule.field-0.0 c.in_err-schedule.ensures.stops
    (λ sink disk. stopped_then (v.boot.image ∷ []) (v.boot.schedule ∷ v.file ∷ []) _ _ _ _ (c.in_ok-image.ensures.gets [] sink disk) (c.in_err-schedule.ensures.gets (v.file ∷ []) sink disk)))

pub returns-in_err-bytes-clause-comes : goal.returns-in_err-bytes-clause-comes
returns-in_err-bytes-clause-comes g c =
    let p = err_from_is_err_and c.from_residual-in_err-bytes.result c.from_residual-in_err-bytes.ensures.1 in
    let v = save_view c.args.resume.now in
    rw (p.1, p.2) (all_stop (told_files g.S.Shelf c.args.shelf.now) _ (v.boot.image ∷ v.boot.schedule ∷ v.file ∷ []) (after (save_session v)) c.in_err-bytes.field-0.0 c.in_err-bytes.ensures.stops
    (λ sink disk. stopped_then (v.boot.image ∷ v.boot.schedule ∷ []) (v.file ∷ []) _ _ _ _
    (are_both (v.boot.image ∷ []) _ _ (c.in_ok-image.ensures.gets [] sink disk) (v.boot.schedule ∷ []) _ (c.in_ok-schedule.ensures.gets [] sink disk)) (c.in_err-bytes.ensures.gets [] sink disk)))

pub returns-in_err-ready-clause-comes : goal.returns-in_err-ready-clause-comes
returns-in_err-ready-clause-comes g c =
    let p = err_from_is_err_and c.from_residual-in_err-ready.result c.from_residual-in_err-ready.ensures.1 in
    let v = save_view c.args.resume.now in
    let file = g.S.Shelf.file c.args.shelf.now in
    let i = c.in_ok-image.ensures.got in
    let s = file_moved (file v.boot.schedule) _ c.in_ok-schedule.schedule.items (c.in_ok-image.ensures.files v.boot.schedule) c.in_ok-schedule.ensures.got in
    let b = file_moved (file v.file) _ c.in_ok-bytes.bytes.items (c.in_ok-schedule.ensures.files v.file ∙ c.in_ok-image.ensures.files v.file) c.in_ok-bytes.ensures.got in
    let made : Result Resumable Stop = Err c.in_err-ready.field-0.0 in
    rw (p.1, p.2) (all_come (resumable_for v) file (v.boot.image ∷ v.boot.schedule ∷ v.file ∷ []) (c.in_ok-image.image.items ∷ c.in_ok-schedule.schedule.items ∷ c.in_ok-bytes.bytes.items ∷ []) (after (save_session v)) made
    (i.tells, i.short, (s.tells, s.short, (b.tells, b.short, tt)))
    (three_stopped layer_image (save_session v) c.in_ok-image.image.items c.in_ok-schedule.schedule.items c.in_ok-bytes.bytes.items c.in_err-ready.field-0.0
    (rw (c.deref.ensures.value, c.deref-2.ensures.value) at (c.in_err-ready.ensures.comes (save_session v)))))

pub returns-clause-comes : goal.returns-clause-comes
returns-clause-comes g c =
    let v = save_view c.args.resume.now in
    let file = g.S.Shelf.file c.args.shelf.now in
    let i = c.in_ok-image.ensures.got in
    let s = file_moved (file v.boot.schedule) _ c.in_ok-schedule.schedule.items (c.in_ok-image.ensures.files v.boot.schedule) c.in_ok-schedule.ensures.got in
    let b = file_moved (file v.file) _ c.in_ok-bytes.bytes.items (c.in_ok-schedule.ensures.files v.file ∙ c.in_ok-image.ensures.files v.file) c.in_ok-bytes.ensures.got in
    fetched_plan file (v.boot.image ∷ v.boot.schedule ∷ v.file ∷ []) (c.in_ok-image.image.items ∷ c.in_ok-schedule.schedule.items ∷ c.in_ok-bytes.bytes.items ∷ []) (after (save_session v)) _
    (i.tells, i.short, (s.tells, s.short, (b.tells, b.short, tt)))
    (three_come layer_image (save_session v) c.in_ok-image.image.items c.in_ok-schedule.schedule.items c.in_ok-bytes.bytes.items (boots (save_session v) (image_system c.in_ok-ready.ready.boot) c.in_ok-ready.ready.schedule)
    (rw (c.deref.ensures.value, c.deref-2.ensures.value) at (c.in_ok-ready.ensures.comes (save_session v))))

pub returns-in_err-image-clause-gets : goal.returns-in_err-image-clause-gets
returns-in_err-image-clause-gets g c = λ sink disk.
    let p = err_from_is_err_and c.from_residual.result c.from_residual.ensures.1 in
    let v = save_view c.args.resume.now in
    rw (p.1, p.2) (c.in_err-image.ensures.gets (v.boot.schedule ∷ v.file ∷ []) sink disk)

pub returns-in_err-schedule-clause-gets : goal.returns-in_err-schedule-clause-gets
returns-in_err-schedule-clause-gets g c = λ sink disk.
    let p = err_from_is_err_and c.from_residual-in_err-schedule.result c.from_residual-in_err-schedule.ensures.1 in
    let v = save_view c.args.resume.now in
    rw (p.1, p.2) (stopped_then (v.boot.image ∷ []) (v.boot.schedule ∷ v.file ∷ []) _ _ _ _ (c.in_ok-image.ensures.gets [] sink disk) (c.in_err-schedule.ensures.gets (v.file ∷ []) sink disk))

pub returns-in_err-bytes-clause-gets : goal.returns-in_err-bytes-clause-gets
returns-in_err-bytes-clause-gets g c = λ sink disk.
    let p = err_from_is_err_and c.from_residual-in_err-bytes.result c.from_residual-in_err-bytes.ensures.1 in
    let v = save_view c.args.resume.now in
    rw (p.1, p.2) (stopped_then (v.boot.image ∷ v.boot.schedule ∷ []) (v.file ∷ []) _ _ _ _
    (are_both (v.boot.image ∷ []) _ _ (c.in_ok-image.ensures.gets [] sink disk) (v.boot.schedule ∷ []) _ (c.in_ok-schedule.ensures.gets [] sink disk)) (c.in_err-bytes.ensures.gets [] sink disk))

pub returns-in_err-ready-clause-gets : goal.returns-in_err-ready-clause-gets
returns-in_err-ready-clause-gets g c = λ sink disk.
    let p = err_from_is_err_and c.from_residual-in_err-ready.result c.from_residual-in_err-ready.ensures.1 in
    let v = save_view c.args.resume.now in
    rw (p.1, p.2) (stop_behind (v.boot.image ∷ v.boot.schedule ∷ v.file ∷ []) _ _ c.in_err-ready.field-0.0
    (are_both (v.boot.image ∷ v.boot.schedule ∷ []) _ _ (are_both (v.boot.image ∷ []) _ _ (c.in_ok-image.ensures.gets [] sink disk) (v.boot.schedule ∷ []) _ (c.in_ok-schedule.ensures.gets [] sink disk)) (v.file ∷ []) _
    (c.in_ok-bytes.ensures.gets [] sink disk))
    c.in_err-ready.ensures.inside (λ s. c.in_err-ready.ensures.short (ap (λ (x : Stop). Err x) s)))

pub returns-clause-gets : goal.returns-clause-gets
returns-clause-gets g c = λ sink disk.
    let v = save_view c.args.resume.now in
    are_both (v.boot.image ∷ v.boot.schedule ∷ []) _ _ (are_both (v.boot.image ∷ []) _ _ (c.in_ok-image.ensures.gets [] sink disk) (v.boot.schedule ∷ []) _ (c.in_ok-schedule.ensures.gets [] sink disk)) (v.file ∷ []) _
    (c.in_ok-bytes.ensures.gets [] sink disk)

pub returns-clause-bytes : goal.returns-clause-bytes
returns-clause-bytes g c =
    let file = g.S.Shelf.file c.args.shelf.now in
    let v = save_view c.args.resume.now in (
      told_bytes (file v.boot.image) _ c.in_ok-image.ensures.got,
      (
        told_bytes (file v.boot.schedule) _ (file_moved (file v.boot.schedule) _ c.in_ok-schedule.schedule.items (c.in_ok-image.ensures.files v.boot.schedule) c.in_ok-schedule.ensures.got),
        (told_bytes (file v.file) _ (file_moved (file v.file) _ c.in_ok-bytes.bytes.items (c.in_ok-schedule.ensures.files v.file ∙ c.in_ok-image.ensures.files v.file) c.in_ok-bytes.ensures.got), tt),
      ),
    )
