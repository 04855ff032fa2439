-- What a write of a port does to the device, said of the board that callers see.
use Rattle.std.proofs.Common.{ap, ◌∙◌, ◌/◌}
use Rattle.mips_table.specs.Device.{port_write}
use Rattle.sector_disk.specs.Ports.{device_of}
use Rattle.mips_machine.specs.Board.{Board}
use Rattle.mips_machine.proofs.board.Board.write_port.Goals as goal

pub returns-clause-device : goal.returns-clause-device
returns-clause-device c sectors times e =
    c.write_port.ensures.device sectors times (ap (λ (b : Board). times b.ports.commands) c.self.view_is ∙ e)
    ∙ ap (λ (b : Board). port_write times c.args.count (device_of b.ports b.buffer sectors) (c.args.write.address / 4) c.args.write.value) c.self.view_is
