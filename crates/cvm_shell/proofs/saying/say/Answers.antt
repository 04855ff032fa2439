use Rattle.std.proofs.Common.{Ok, Err}
use Rattle.cvm_outside.specs.Outside.{output}
use Rattle.cvm_shell.proofs.StageEnds.{said}
use Rattle.cvm_shell.proofs.saying.say.Goals as goal

pub returns-in-Ok : goal.returns-in-Ok
returns-in-Ok g c = λ shelf disk.
    let e = c.in-Ok.ensures in
    said c.args.text.now c.args.status shelf disk (output g.O.Sink c.args.out.now) (output g.O.Sink c.put.new.self) (Ok tt) e.whole e.part e.count

pub returns-in-Err : goal.returns-in-Err
returns-in-Err g c = λ shelf disk.
    let e = c.in-Err.ensures in
    said c.args.text.now c.args.status shelf disk (output g.O.Sink c.args.out.now) (output g.O.Sink c.put.new.self) (Err c.in-Err.field-0) e.whole e.part e.count
