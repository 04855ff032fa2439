use Rattle.std.proofs.Common.{ℕ, Ok, Err, subst}
use Rattle.std.specs.Prelude.{Result}
use Rattle.std.specs.Global.{Vec}
use Rattle.cvm_outside.specs.Outside.{files as told_files, output}
use Rattle.cvm_shell.specs.declared.boot.Stop.{Stop}
use Rattle.cvm_shell.proofs.StageEnds.{StageMade, stop_done, put_done}
use Rattle.cvm_shell.proofs.putting.put_made.Goals as goal

pub returns-in-Err : goal.returns-in-Err
returns-in-Err g c = λ words d first disk is gets plan.
    let sink = output g.O.Sink c.args.out.now in
    let P : Result (Vec ℕ) Stop → Type 0 = StageMade d c.args.name.now sink disk (told_files g.S.Shelf first) (told_files g.S.Shelf c.args.shelf.now) in
    let h = subst P c.in-Err.is (record { gets = gets sink disk; plan = plan }) in
    stop_done g.O.Sink words d disk _ _ c.in-Err.stop _ _ _ is h.gets h.plan c.say_stop.ensures

pub returns-in-Ok-put : goal.returns-in-Ok-put
returns-in-Ok-put g c = λ words d first disk is gets plan.
    let sink = output g.O.Sink c.args.out.now in
    let P : Result (Vec ℕ) Stop → Type 0 = StageMade d c.args.name.now sink disk (told_files g.S.Shelf first) (told_files g.S.Shelf c.args.shelf.now) in
    let h = subst P c.in-Ok.is (record { gets = gets sink disk; plan = plan }) in
    let e = c.in-Ok-put.ensures in
    put_done words d c.args.name.now c.deref.result.now c.in-Ok.bytes.items (Ok tt) sink disk (told_files g.S.Shelf first) (told_files g.S.Shelf c.args.shelf.now) _ is h.plan c.deref.ensures.value h.gets
    (record { others = e.others; whole = e.bytes; part = e.part; few = e.few; taken = e.taken; count = e.count; called = record { calls = e.called; all_calls = e.all_called; gives = e.given } })

pub returns : goal.returns
returns g c = λ words d first disk is gets plan.
    let sink = output g.O.Sink c.args.out.now in
    let P : Result (Vec ℕ) Stop → Type 0 = StageMade d c.args.name.now sink disk (told_files g.S.Shelf first) (told_files g.S.Shelf c.args.shelf.now) in
    let h = subst P c.in-Ok.is (record { gets = gets sink disk; plan = plan }) in
    let e = c.in-Err-put.ensures in
    put_done words d c.args.name.now c.deref.result.now c.in-Ok.bytes.items (Err c.in-Err-put.field-0) sink disk (told_files g.S.Shelf first) (told_files g.S.Shelf c.args.shelf.now) _ is h.plan c.deref.ensures.value h.gets
    (record { others = e.others; whole = e.bytes; part = e.part; few = e.few; taken = e.taken; count = e.count; called = record { calls = e.called; all_calls = e.all_called; gives = e.given } })
