use Rattle.cvm_outside.specs.Outside.{drive}
use Rattle.cvm_outside.proofs.RowsPut.{write_once}
use Rattle.sector_disk.proofs.transfer.write_sector.Goals as goal

pub returns-clause-script : goal.returns-clause-script
returns-clause-script g c shelf sink =
    let p = write_once c.args.sector c.lend.result.now shelf sink (drive g.D.Sectors c.args.disk.now) (drive g.D.Sectors c.write.new.self) c.write.result c.requires.sector c.write.ensures.size c.write.ensures.words c.write.ensures.torn c.write.ensures.count c.write.ensures.called c.write.ensures.all_called in
    rw c.lend.ensures at p
