use Rattle.std.proofs.Common.{None}
use Rattle.cvm_outside.specs.Outside.{output, drive}
use Rattle.cvm_shell.proofs.StartAnswers.{same_sight}
use Rattle.cvm_shell.proofs.GotCalls.{beside}
use Rattle.cvm_shell.proofs.SystemCalls.{begun_does, end_said, unmoved}
use Rattle.cvm_shell.proofs.boot.run_system.Goals as goal

pub returns : goal.returns
returns g c = λ shelf.
    let r = c.args.ready in
    let a = c.load_and_run-answer in
    let sink = output g.O.Sink c.args.out.now in
    let disk = drive g.D.Sectors c.args.disk.now in
    end_said g.O.Sink r c.args.session None shelf (drive g.D.Sectors a.new.disk) a.new.out c.say_end.new.out (beside sink disk shelf) c.say_end.result a.result a.ensures.answers
    (λ begun room. begun_does g.O.Sink g.D.Sectors r c.args.session c.args.out.now a.new.out c.args.disk.now a.new.disk shelf a.result begun a.ensures.calls a.ensures.pasts (same_sight r.boot c.args.session.view room.user) room.room)
    (unmoved a.result a.ensures.calls.none (λ q. beside (output g.O.Sink q.0) (drive g.D.Sectors q.1) shelf)) c.say_end.ensures
