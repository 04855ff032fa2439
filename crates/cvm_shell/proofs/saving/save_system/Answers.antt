use Rattle.std.proofs.Common.{Some}
use Rattle.cvm_outside.specs.Outside.{files as told_files, drive}
use Rattle.run_scripts.specs.Command.{save_session}
use Rattle.run_scripts.specs.Ends.{as_outside as told_by}
use Rattle.cvm_shell.specs.Views.{save_view}
use Rattle.cvm_shell.proofs.SavedCalls.{saved_does}
use Rattle.cvm_shell.proofs.SystemCalls.{end_said, unmoved}
use Rattle.cvm_shell.proofs.saving.save_system.Goals as goal

pub returns : goal.returns
returns g c =
    let r = c.args.saveable.ready in
    let v = save_view c.args.save.now in
    let a = c.save_ready-answer in
    let at = told_by g.S.Shelf g.O.Sink g.D.Sectors in
    end_said g.O.Sink r (save_session v) (Some v.file) (told_files g.S.Shelf a.new.shelf) (drive g.D.Sectors a.new.disk) a.new.out c.say_end.new.out (at c.args.shelf.now c.args.out.now c.args.disk.now) c.say_end.result a.result a.ensures.answers
    (λ begun room. saved_does g.S.Shelf g.O.Sink g.D.Sectors r v c.args.shelf.now a.new.shelf c.args.out.now a.new.out c.args.disk.now a.new.disk a.result begun a.ensures.calls a.ensures.pasts room.room)
    (unmoved a.result a.ensures.calls.none (λ q. at q.0 q.1 q.2)) c.say_end.ensures
