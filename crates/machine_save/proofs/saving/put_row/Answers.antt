use Rattle.std.proofs.Common.{◌≡◌, refl, Some, None, Ok, Err}
use Rattle.std.specs.Prelude.{codes}
use Rattle.cvm_outside.specs.Outside.{output}
use Rattle.cvm_outside.specs.Script.{TheSink}
use Rattle.cvm_outside.proofs.RowsPut.{put_once, performed}
use Rattle.machine_save.proofs.saving.put_row.Goals as goal

pub returns-in-Ok : goal.returns-in-Ok
returns-in-Ok g c =
    let e = c.in-Ok.ensures in (
      λ shelf disk. performed (Some (codes "saved\n")) (codes "saved\n") shelf disk (output g.O.Sink c.args.out.now) (output g.O.Sink c.put.new.self) None refl
          (put_once (codes "saved\n") (output g.O.Sink c.args.out.now) (output g.O.Sink c.put.new.self) (Ok tt) e.whole e.part e.count),
      λ none. refl,
    )

pub returns-in-Err : goal.returns-in-Err
returns-in-Err g c =
    let e = c.in-Err.ensures in (
      λ shelf disk. performed (Some (codes "saved\n")) (codes "saved\n") shelf disk (output g.O.Sink c.args.out.now) (output g.O.Sink c.put.new.self) (Some TheSink) refl
          (put_once (codes "saved\n") (output g.O.Sink c.args.out.now) (output g.O.Sink c.put.new.self) (Err c.in-Err.field-0) e.whole e.part e.count),
      λ none. absurd (let z : Some TheSink ≡ None = none in cc),
    )
