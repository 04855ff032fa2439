use Rattle.std.proofs.Common.{ap, Err}
use Rattle.cvm_shell.specs.declared.boot.Stop.{Stop}
use Rattle.cvm_outside.specs.Outside.{drive}
use Rattle.run_scripts.specs.Command.{sample_session}
use Rattle.cvm_shell.specs.Stages.{ready_for}
use Rattle.cvm_shell.proofs.StageEnds.{sample_done, sample_stopped}
use Rattle.cvm_shell.proofs.StartAnswers.{told_disk}
use Rattle.cvm_shell.proofs.run_sample.Goals as goal

pub returns-in-Ok : goal.returns-in-Ok
returns-in-Ok g c = λ words shelf is.
    sample_done words (record { number = c.args.number }) (ready_for sample_session c.in-Ok.ready) _ _ _ is c.in-Ok.ensures.comes (λ e. cc) (λ e. cc)
    (told_disk (g.D.Sectors.size c.args.disk.now) (g.D.Sectors.sectors c.args.disk.now) (g.met.D.Sectors.sized c.args.disk.now) c.are_sectors.ensures)
    (c.run_system.ensures shelf)

pub returns-in-Err : goal.returns-in-Err
returns-in-Err g c = λ words shelf is.
    sample_stopped g.O.Sink words (record { number = c.args.number }) shelf (drive g.D.Sectors c.args.disk.now) c.in-Err.stop _ _ _ is c.in-Err.ensures.comes c.in-Err.ensures.inside
    (λ e. c.in-Err.ensures.short (ap (λ (x : Stop). Err x) e)) c.say_stop.ensures
