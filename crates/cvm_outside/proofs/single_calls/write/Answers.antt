use Rattle.cvm_outside.specs.Outside.{drive}
use Rattle.cvm_outside.proofs.RowsPut.{write_once}
use Rattle.cvm_outside.proofs.single_calls.write.Goals as goal

pub returns : goal.returns
returns g c shelf sink =
    write_once c.args.sector c.args.from.now shelf sink (drive g.D.Sectors c.args.disk.now) (drive g.D.Sectors c.write.new.self) c.write.result c.requires c.write.ensures.size c.write.ensures.words c.write.ensures.torn c.write.ensures.count c.write.ensures.called c.write.ensures.all_called
