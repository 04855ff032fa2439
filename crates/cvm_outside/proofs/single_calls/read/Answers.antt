use Rattle.cvm_outside.specs.Outside.{drive}
use Rattle.cvm_outside.proofs.RowsPut.{read_once}
use Rattle.cvm_outside.proofs.single_calls.read.Goals as goal

pub returns-clause-asks : goal.returns-clause-asks
returns-clause-asks g c shelf sink =
    read_once c.args.sector shelf sink (drive g.D.Sectors c.args.disk.now) (drive g.D.Sectors c.read.new.self) c.read.result c.requires c.read.ensures.size c.read.ensures.sectors c.read.ensures.count c.read.ensures.called c.read.ensures.all_called
