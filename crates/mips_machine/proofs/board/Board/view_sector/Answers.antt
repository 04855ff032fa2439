-- The disk is called once.
use Rattle.cvm_outside.specs.Outside.{drive}
use Rattle.cvm_outside.proofs.RowsPut.{read_once}
use Rattle.mips_machine.proofs.board.Board.view_sector.Goals as goal

pub returns-clause-script : goal.returns-clause-script
returns-clause-script g c shelf sink =
    read_once c.args.i shelf sink (drive g.D.Sectors c.args.disk.now) (drive g.D.Sectors c.read.new.self) c.read.result c.requires c.read.ensures.size c.read.ensures.sectors c.read.ensures.count c.read.ensures.called c.read.ensures.all_called
