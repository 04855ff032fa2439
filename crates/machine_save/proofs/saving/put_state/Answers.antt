use Rattle.std.proofs.Common.{◌≡◌, [], ◌∷◌, ◌∙◌, Some, None}
use Rattle.std.specs.Prelude.{codes}
use Rattle.cvm_outside.specs.Outside.{files, output}
use Rattle.cvm_outside.specs.Script.{Printed, Stored, TheShelf, breaks, goes_on}
use Rattle.boot_run.specs.RunCalls.{of_end}
use Rattle.machine_save.proofs.SaveCalls.{put_does, put_fails}
use Rattle.machine_save.proofs.saving.put_state.Goals as goal

pub returns-in-Ok : goal.returns-in-Ok
returns-in-Ok g c =
    let e = c.in-Ok.ensures in (
      c.bytes.result.now,
      λ few bits. c.bytes.ensures ∙ c.fill.ensures.file few bits,
      λ disk. goes_on (Stored c.args.place.name.now c.bytes.result.now) (Printed (Some (codes "saved\n")) ∷ []) _ _ _ (of_end c.put_row.result)
          (put_does c.args.place.name.now c.bytes.result.now (output g.O.Sink c.args.out.now) disk (files g.S.Shelf c.args.shelf.now) (files g.S.Shelf c.put.new.self)
          (record { others = e.others; whole = e.bytes; part = e.part; few = e.few; taken = e.taken; count = e.count; called = record { calls = e.called; all_calls = e.all_called; gives = e.given } }))
          (c.put_row.ensures.0 (files g.S.Shelf c.put.new.self) disk),
      c.put_row.ensures.1,
    )

pub returns : goal.returns
returns g c =
    let e = c.in-Err.ensures in (
      c.bytes.result.now,
      λ few bits. c.bytes.ensures ∙ c.fill.ensures.file few bits,
      λ disk. breaks (Stored c.args.place.name.now c.bytes.result.now) (Printed (Some (codes "saved\n")) ∷ []) _ _
          (put_fails c.args.place.name.now c.bytes.result.now (output g.O.Sink c.args.out.now) disk (files g.S.Shelf c.args.shelf.now) (files g.S.Shelf c.put.new.self) c.in-Err.field-0
          (record { others = e.others; whole = e.bytes; part = e.part; few = e.few; taken = e.taken; count = e.count; called = record { calls = e.called; all_calls = e.all_called; gives = e.given } })),
      λ none. absurd (let z : Some TheShelf ≡ None = none in cc),
    )
