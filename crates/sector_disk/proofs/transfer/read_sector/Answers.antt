-- The frame holds what came, and the store is as long as before.
use Rattle.std.proofs.Common.{sym, ap}
use Rattle.frame_store.specs.Words.{with_frame}
use Rattle.cvm_outside.specs.Outside.{drive}
use Rattle.cvm_outside.proofs.RowsPut.{read_once}
use Rattle.sector_disk.proofs.transfer.read_sector.Goals as goal

pub returns-clause-frames : goal.returns-clause-frames
returns-clause-frames g c =
    ap (with_frame c.args.frames.now c.args.buffer) (sym (c.a_frame_is_its_part.ensures.same_frame c.args.frames.now c.args.buffer c.read.new.into c.requires.frame c.read.ensures.whole))

pub returns-clause-length : goal.returns-clause-length
returns-clause-length g c = c.a_frame_is_its_part.ensures.same_length c.args.frames.now c.args.buffer c.read.new.into c.requires.frame c.read.ensures.whole

pub returns-clause-words : goal.returns-clause-words
returns-clause-words g c =
    let e = c.a_frame_is_its_part.ensures.same_frame c.args.frames.now c.args.buffer c.read.new.into c.requires.frame c.read.ensures.whole in
    rw e c.read.ensures.words

pub returns-clause-script : goal.returns-clause-script
returns-clause-script g c shelf sink =
    read_once c.args.sector shelf sink (drive g.D.Sectors c.args.disk.now) (drive g.D.Sectors c.read.new.self) c.read.result c.requires.sector c.read.ensures.size c.read.ensures.sectors c.read.ensures.count c.read.ensures.called c.read.ensures.all_called
