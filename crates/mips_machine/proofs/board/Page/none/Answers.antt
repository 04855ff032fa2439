-- No page serves over any board.
use Rattle.mips_machine.proofs.KeptPagesServe.{none_serves}
use Rattle.mips_machine.proofs.board.Page.none.Goals as goal

pub returns : goal.returns
returns c = none_serves
