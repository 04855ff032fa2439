use Rattle.boot_turns.proofs.AnyTurns.{loops_make_turns}
use Rattle.boot_turns.proofs.loops_make_turns.Goals as goal

pub returns : goal.returns
returns c = loops_make_turns
