-- What a port of the disk reads, said of the board that callers see.
use Rattle.std.proofs.Common.{ap, ◌∙◌, [], ◌/◌}
use Rattle.mips_table.specs.Device.{port_read}
use Rattle.sector_disk.specs.Ports.{device_of}
use Rattle.mips_machine.specs.Board.{Board, around}
use Rattle.mips_machine.proofs.WritesBeginCommands.{disk_word}
use Rattle.mips_machine.proofs.board.Board.read_port.Goals as goal

pub returns-else-word-eq-INPUT-clause-word : goal.returns-else-word-eq-INPUT-clause-word
returns-else-word-eq-INPUT-clause-word c =
    c.read_port.ensures [] ∙ ap (λ (b : Board). port_read (device_of b.ports b.buffer []) (c.args.address / 4)) c.self.view_is
    ∙ disk_word (around c.args.self.now) (c.args.address / 4) c.if-word-eq-LOG.false c.if-word-eq-LEFT.false c.if-word-eq-INPUT.false
