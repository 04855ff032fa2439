-- At first no step was made, and no page is kept.
use Rattle.std.proofs.Common.{refl, arith}
use Rattle.mips_machine.proofs.stretch.row.Goals as goal

pub loop-done-init : goal.loop-done-init
loop-done-init c = (omega arith, (refl, refl), c.none-code.ensures c.args.board.now, c.none-loads.ensures c.args.board.now)
